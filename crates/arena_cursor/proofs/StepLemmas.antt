-- Steps of the rules in an arena that doesn't grow: it asks for nothing, so that no request is refused.
use Rattle.std.proofs.Common.{◌≡◌, ℕ, ◌+◌, ◌-◌, ◌%◌, ◌<◌, ◌≤◌, ◌⊎◌, inl, inr, max, refl, sym, subst, arith, true, false, IsTrue, Option, Some, None, length, nat_le, ◌&&◌, ◌==◌, not}
use Rattle.std.proofs.lemmas.Bool.Decides.{nat_tests}
use Rattle.arena_rules.specs.Rounding.{up, down, is_layout}
use Rattle.arena_rules.specs.Search.{place_below, asked}
use Rattle.arena_rules.specs.Moves.{alloc, dealloc, grow, shrink, shrinking}
use Rattle.arena_rules.specs.Moves.Resizing.{Moves}
use Rattle.arena_rules.proofs.RoundingLemmas.{min_align_power}
use Rattle.arena_rules.proofs.AllocLemmas.{alloc_placed, alloc_refused}
use Rattle.arena_rules.proofs.ReturnLemmas.{dealloc_at, dealloc_elsewhere}
use Rattle.arena_cursor.specs.Steps.{arena_of, is_valid, is_in_use, is_outside, refuses_growth, growth_outside, shrinking_outside, MovesTo, IsStep}
use Rattle.arena_cursor.specs.declared.cursor.Cursor.{Cursor}
use Rattle.arena_cursor.proofs.PlaceLemmas.{valid_is, padded_is, max_is_power, aligned_below, aligned_up, up_valid, size_pads, size_grows}
use Rattle.arena_cursor.proofs.ApartLemmas.{resized_by_alloc, resized_down, resized_here, resized_up}
use Rattle.arena_rules.proofs.ResizeSteps.{shrinks_still, shrinks_up, shrinks_aligned, shrinks_by_alloc, grows_by_alloc, grows_full, grows_down, grows_not}

-- ---- A new block

nothing_asked : (at : Cursor) (size align : ℕ) → 0 ≡ length (asked (arena_of at) size align)
unfolding asked
nothing_asked at size align = refl

-- an allocation is a place below the cursor, or fails
pub alloc_step : (at new : Cursor) (size align : ℕ) (answer : Option ℕ) → answer ≡ place_below at.start at.cursor size align at.min_align
    → MovesTo at new answer → IsStep (alloc (arena_of at) size align 0) at new answer
alloc_step at new size align None is moves =
    let same : new ≡ at = moves in
    rw same (record {
      outcome = alloc_refused (arena_of at) size align 0 (sym is) (nothing_asked at size align);
      start = refl;
      end = refl;
    })
alloc_step at new size align (Some p) is moves =
    let same : new ≡ record at { cursor = p } = moves in
    rw same (record { outcome = alloc_placed (arena_of at) size align p (sym is); start = refl; end = refl })

-- ---- A block that is given back

pub returned_at : (at : Cursor) (p size : ℕ) → p ≡ at.cursor
    → arena_of (record at { cursor = up (p + size) at.min_align }) ≡ dealloc (arena_of at) p size
returned_at at p size here = sym (dealloc_at (arena_of at) p size here)

pub returned_elsewhere : (at : Cursor) (p size : ℕ) → (p ≡ at.cursor → ⊥) → arena_of at ≡ dealloc (arena_of at) p size
returned_elsewhere at p size other = sym (dealloc_elsewhere (arena_of at) p size other)

pub ruleset return_laws = (valid_is, min_align_power, padded_is, returned_at, returned_elsewhere)

module _ (at : Cursor) (p size align new_size new_align : ℕ) where
  -- ---- A block that grows

  -- away from the cursor, or to a greater alignment, it is allocated again
  pub grow_by_alloc : (new : Cursor) (answer : Option ℕ) → (align < new_align) ⊎ (p ≡ at.cursor → ⊥)
      → answer ≡ place_below at.start at.cursor new_size new_align at.min_align → MovesTo at new answer
      → IsStep (grow (arena_of at) p size align new_size new_align 0) at new answer
  unfolding grow
  grow_by_alloc new answer away is moves =
      rw (grows_by_alloc (arena_of at) p size align new_size new_align away) (alloc_step at new new_size new_align answer is moves)

  -- at the cursor its growth may be no layout, for a large alignment
  pub grow_not : new_align ≤ align → p ≡ at.cursor → is_layout (up new_size at.min_align - size) align ≡ false
      → IsStep (grow (arena_of at) p size align new_size new_align 0) at at None
  unfolding grow
  grow_not low here large =
      let way = grows_not (arena_of at) p size align new_size new_align (record { low = low; at = here }) large in
      record { outcome = rw way refl; start = refl; end = refl }

  -- it moves down where there is room below it
  pub grow_down : (new : Cursor) (q more : ℕ) → more ≡ up new_size at.min_align - size → new_align ≤ align → p ≡ at.cursor
      → IsTrue (is_layout more align) → Some q ≡ place_below at.start at.cursor more align at.min_align → MovesTo at new (Some q)
      → IsStep (grow (arena_of at) p size align new_size new_align 0) at new (Some q)
  unfolding grow
  grow_down new q more growth low here layout is moves =
      let fine = subst (λ (n : ℕ). is_layout n align ≡ true) growth layout in
      let found = subst (λ (n : ℕ). place_below at.start at.cursor n align at.min_align ≡ Some q) growth (sym is) in
      let way = grows_down (arena_of at) p size align new_size new_align q (record { low = low; at = here }) fine found in
      let same : new ≡ record at { cursor = q } = moves in
      rw same (record { outcome = rw way refl; start = refl; end = refl })

  -- without room it is allocated again
  pub grow_full : (mid new : Cursor) (more : ℕ) (answer : Option ℕ) → more ≡ up new_size at.min_align - size → new_align ≤ align
      → p ≡ at.cursor → IsTrue (is_layout more align) → None ≡ place_below at.start at.cursor more align at.min_align → mid ≡ at
      → answer ≡ place_below mid.start mid.cursor new_size new_align mid.min_align → MovesTo mid new answer
      → IsStep (grow (arena_of at) p size align new_size new_align 0) at new answer
  unfolding grow
  grow_full mid new more answer growth low here layout none same is moves =
      let fine = subst (λ (n : ℕ). is_layout n align ≡ true) growth layout in
      let full = subst (λ (n : ℕ). place_below at.start at.cursor n align at.min_align ≡ None) growth (sym none) in
      let way = grows_full (arena_of at) p size align new_size new_align (record { low = low; at = here }) fine full in
      rw way (alloc_step at new new_size new_align answer
      (subst (λ (c : Cursor). answer ≡ place_below c.start c.cursor new_size new_align c.min_align) same is)
      (subst (λ (c : Cursor). MovesTo c new answer) same moves))

  -- whether it is refused
  pub refused_is : refuses_growth at p size align new_size new_align
      ≡ (nat_le new_align align && p == at.cursor && not (is_layout (up new_size at.min_align - size) align))
  unfolding refuses_growth
  refused_is = grind (arith, nat_tests)

  -- a block without a byte in the chunk is allocated again
  pub grow_outside : IsTrue (is_valid at) → is_in_use at p size ≡ false → IsTrue (is_outside at p size)
      → 6 ≡ growth_outside at p size align new_size new_align
  unfolding growth_outside
  grow_outside valid unused outside = let is = valid_is at valid in grind (arith, nat_tests, is.low, is.high)

  -- ---- A block that shrinks

  -- away from the cursor, or if little is given back, it stays
  pub shrink_stays : (back : ℕ) → new_align ≤ align → back ≡ down (size - new_size) (max new_align at.min_align)
      → ((p ≡ at.cursor → ⊥) ⊎ (back < size - back)) → IsStep (shrink (arena_of at) p size align new_size new_align 0) at at (Some p)
  unfolding shrink
  shrink_stays back low is still =
      let way = shrinks_still (arena_of at) p size align new_size new_align low (elim still [
        | inl away ↦ inl away
        | inr little ↦ inr (omega (arith, is, little))
      ]) in
      record { outcome = rw way refl; start = refl; end = refl }

  -- at the cursor it moves up, if at least half of it is given back
  pub shrink_up : (new : Cursor) (back : ℕ) → new_align ≤ align → back ≡ down (size - new_size) (max new_align at.min_align)
      → p ≡ at.cursor → size - back ≤ back → new ≡ record at { cursor = p + back }
      → IsStep (shrink (arena_of at) p size align new_size new_align 0) at new (Some (p + back))
  unfolding shrink
  shrink_up new back low is here half moves =
      let up = shrinks_up (arena_of at) p size align new_size new_align low here (omega (arith, is, half)) in
      let way = subst (λ (n : ℕ). shrinking (arena_of at) p size align new_size new_align ≡ Moves (p + n)) (sym is) up in
      rw moves (record { outcome = rw way refl; start = refl; end = refl })

  -- to a greater alignment it stays at a multiple of it, and is allocated again elsewhere
  pub shrink_aligned : align < new_align → p % new_align ≡ 0 → IsStep (shrink (arena_of at) p size align new_size new_align 0) at at (Some p)
  unfolding shrink
  shrink_aligned high aligned =
      let way = shrinks_aligned (arena_of at) p size align new_size new_align high aligned in
      record { outcome = rw way refl; start = refl; end = refl }

  pub shrink_by_alloc : (new : Cursor) (answer : Option ℕ) → align < new_align → (p % new_align ≡ 0 → ⊥)
      → answer ≡ place_below at.start at.cursor new_size new_align at.min_align → MovesTo at new answer
      → IsStep (shrink (arena_of at) p size align new_size new_align 0) at new answer
  unfolding shrink
  shrink_by_alloc new answer high apart is moves =
      rw (shrinks_by_alloc (arena_of at) p size align new_size new_align high apart)
      (alloc_step at new new_size new_align answer is moves)

-- one that shrinks stays if its alignment doesn't rise, or its address is a multiple of it, and otherwise is allocated again
module _ (at : Cursor) (p size align new_size new_align : ℕ) (valid : IsTrue (is_valid at)) (unused : is_in_use at p size ≡ false)
    (outside : is_outside at p size ≡ true) where
  pub shrink_lower : new_align ≤ align → 7 ≡ shrinking_outside at p size align new_size new_align
  unfolding shrinking_outside
  shrink_lower low = let is = valid_is at valid in grind (arith, nat_tests, is.low, is.high)

  pub shrink_multiple : align < new_align → p % new_align ≡ 0 → 7 ≡ shrinking_outside at p size align new_size new_align
  unfolding shrinking_outside
  shrink_multiple high aligned = grind (arith, nat_tests)

  pub shrink_anew : align < new_align → (p % new_align ≡ 0 → ⊥) → 6 ≡ shrinking_outside at p size align new_size new_align
  unfolding shrinking_outside
  shrink_anew high apart = grind (arith, nat_tests)

-- one that is given back
pub dealloc_outside : (at : Cursor) (p size : ℕ) → IsTrue (is_valid at) → is_in_use at p size ≡ false → IsTrue (is_outside at p size)
    → dealloc (arena_of at) p size ≡ arena_of at
dealloc_outside at p size valid unused outside =
    let is = valid_is at valid in dealloc_elsewhere (arena_of at) p size (λ here. grind (arith, nat_tests, is.low, is.high))

pub ruleset refused_laws = (refused_is)

pub ruleset outside_laws = (grow_outside, shrink_lower, shrink_multiple, shrink_anew, dealloc_outside)

pub ruleset grow_laws = (valid_is, size_grows, resized_by_alloc, resized_down, grow_by_alloc, grow_not, grow_down, grow_full, aligned_below)

pub ruleset realign_laws = (resized_by_alloc, resized_here, shrink_aligned, shrink_by_alloc)

pub ruleset shrink_laws = (valid_is, max_is_power, resized_here, resized_up, shrink_stays, shrink_up, aligned_below, aligned_up, up_valid)
