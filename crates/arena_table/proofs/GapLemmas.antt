-- A slot of a table's bytes is freed, and the gap is closed.
use Rattle.std.proofs.lemmas.Bool.Decides.{nat_tests}
use Rattle.std.proofs.Common.{◌≡◌, ℕ, ◌+◌, ◌-◌, ◌%◌, ◌<◌, ◌≤◌, ◌⊎◌, inl, inr, List, length, get_or, refl, sym, ap, subst, ◌∙◌, arith, Some, None}
use Rattle.std.proofs.lemmas.Bool.{cases_lt}
use Rattle.std.specs.Prelude.{slice_get}
use Rattle.arena_items.specs.declared.item.Item.{Ghosts}
use Rattle.hash_ring.specs.Slots.{spot, items, IsAway, Closed}
use Rattle.hash_ring.specs.Marks.{home_of, mark_of}
use Rattle.std.proofs.Math.Nat.{mod-lt}
use Rattle.hash_ring.proofs.Close.{Closing, closing-start, closing-less, closing-pull, closing-free}
use Rattle.hash_ring.proofs.Homes.{step-place}
use Rattle.hash_ring.proofs.Order.{away-of}
use Rattle.hash_ring.proofs.RingLemmas.{below-next, spot-less, spot-zero, spot-same, spot-before, next-spot}
use Rattle.arena_table.specs.Edits.{SetsSlot, CopiesSlot, ClosesGap, IsNear}
use Rattle.arena_table.specs.Tables.{slots_of, IsShape, IsTable}
use Rattle.arena_table.proofs.SlotLemmas.{slots-long, slot-taken}
use Rattle.arena_table.proofs.TableLemmas.{table-put, table-free}

-- ---- Marks after a slot

-- so far no mark after the slot is far
pub record NearTo (n : ℕ) (bytes : List ℕ) (start k gap : ℕ) : Type 0 where
  pub place : gap ≡ spot n start k
  pub near : (e : ℕ) → e < k → e + 1 < n → get_or bytes (spot n start (e + 1)) 0 < 240

module _ (n : ℕ) (bytes : List ℕ) (start : ℕ) (begun : start < n) where
  pub near-start : NearTo n bytes start 0 start
  near-start = record { place = sym (spot-zero n start begun); near = λ e l m. absurd (omega arith) }

  module _ (k gap next : ℕ) (less : k < n) (s : NearTo n bytes start k gap) (is : next ≡ (gap + 1) % n) where
    here : next ≡ spot n start (k + 1)
    here = step-place n start k gap next begun less s.place is

    pub near-on : get_or bytes next 0 < 240 → NearTo n bytes start (k + 1) next
    near-on low = grind (arith, nat_tests, here, below-next, get_or)

    -- the gap is closed here
    pub near-stop : get_or bytes next 0 < 32 → IsNear n bytes start
    near-stop low = grind (arith, nat_tests, cases_lt, get_or, here)

-- ---- The gap

module _ {K V : Type 0} (keys : Ghosts K) (values : Ghosts V) (n start : ℕ) (from : List ℕ) where
  -- After some steps from the slot `start` on: the gap is at `gap` now.
  pub record Gap (k : ℕ) (bytes : List ℕ) (gap : ℕ) : Type 0 where
    pub shape : IsShape keys values n bytes
    pub within : gap < n
    pub long : length bytes ≡ length from
    pub place : gap ≡ spot n start k
    pub rest : (e : ℕ) → k < e → e < n → get_or bytes (spot n start e) 0 ≡ get_or from (spot n start e) 0
    pub run : (e : ℕ) → e < k → e + 1 < n → 32 ≤ get_or from (spot n start (e + 1)) 0
    pub walk : (hash : K × V → ℕ) (x : K × V) → IsTable keys values hash n from
        → slice_get (slots_of keys values n from) start ≡ Some (Some x)
        → length (items (slots_of keys values n from)) < n
        → Closing (λ p. home_of n (hash p)) n start (slots_of keys values n from) k (slots_of keys values n bytes) gap × IsTable keys
        values hash n bytes

  module _ (begun : start < n) where
    homes : (hash : K × V → ℕ) (p : K × V) → home_of n (hash p) < n
    homes hash p = mod-lt (hash p) (omega arith)

    pub gap-start : IsShape keys values n from → Gap 0 from start
    gap-start shape = record {
      shape = shape;
      within = begun;
      long = refl;
      place = sym (spot-zero n start begun);
      rest = λ e l m. refl;
      run = λ e l m. absurd (omega arith);
      walk = λ hash x table there room.
          (closing-start (λ p. home_of n (hash p)) n (homes hash) (slots_of keys values n from) start x begun there table.ordered, table);
    }

    module _ (k : ℕ) (bytes new : List ℕ) (gap next : ℕ) (less : k < n) (s : Gap k bytes gap) (is : next ≡ (gap + 1) % n) where
      some : 0 < n
      some = omega arith

      there-is : next ≡ spot n start (k + 1)
      there-is = step-place n start k gap next begun less s.place is

      next-is : next ≡ spot n gap 1
      next-is = is ∙ next-spot n gap s.within

      next-within : next < n
      next-within = subst (λ w. w < n) (sym is) (mod-lt (gap + 1) some)

      -- The pair after the gap moves into it.
      pub gap-on : 32 ≤ get_or bytes next 0 → get_or bytes next 0 < 240 → IsShape keys values n new
          → CopiesSlot keys values n bytes new next gap (get_or bytes next 0 - 16) → Gap (k + 1) new next
      gap-on high low shape copies =
          let y = slot-taken _ _ _ _ s.shape next next-within (omega arith) in
          let sets = copies.sets y.0 y.1 (omega arith) in
          record {
            shape = shape;
            within = next-within;
            long = copies.long ∙ s.long;
            place = there-is;
            rest = λ e l m.
                sets.others (spot n start e) (spot-less n start e begun m)
                (λ q. absurd (omega (arith, l, spot-same n start e k begun m less (q ∙ s.place))))
                ∙ s.rest e (omega arith) m;
            run = λ e l m. elim (below-next e k l) [
              | inl b ↦ s.run e b m
              | inr b ↦
                  let here = subst (λ p. 32 ≤ get_or bytes p 0) there-is high in
                  let was = s.rest (k + 1) (omega arith) (omega (arith, b)) in
                  subst (λ j. 32 ≤ get_or from (spot n start (j + 1)) 0) (sym b) (subst (λ w. 32 ≤ w) was here)
            ];
            walk = λ hash x table there room.
                let w = s.walk hash x table there room in
                let slots = slots_of keys values n bytes in
                let home : K × V → ℕ = λ p. home_of n (hash p) in
                let away = away-of home _ (homes hash) slots next y.0 (slots-long _ _ _ _ s.shape) y.1 in
                let mark : get_or bytes next 0 ≡ mark_of (hash y.0) away.0 = w.1.marks next away.0 y.0 away.1 in
                let far : away.0 ≡ away.0 - 1 + 1 = omega (arith, mark, high) in
                let a : IsAway home n slots (spot n gap 1) y.0 (away.0 - 1 + 1) = subst (λ d. IsAway home n slots (spot n gap 1) y.0 d) far
                (subst (λ p. IsAway home n slots p y.0 away.0) next-is away.1) in
                let on = closing-pull _ _ (homes hash) _ _ _ _ _ begun w.0 room _ (away.0 - 1) a in
                let low-d : away.0 - 1 < n = omega (arith, a.less) in
                let here = spot-before n gap (home y.0) (away.0 - 1) s.within (homes hash y.0) low-d a.place in
                let mark' : get_or bytes next 0 ≡ mark_of (hash y.0) (away.0 - 1 + 1) = mark ∙ ap (mark_of (hash y.0)) far in
                let less' : get_or bytes next 0 - 16 ≡ mark_of (hash y.0) (away.0 - 1) =
                omega (arith, mark', low) in (
                  subst (λ p. Closing home n start (slots_of keys values n from) (k + 1) (slots_of keys values n new) p) (sym next-is)
                      (subst (λ q. Closing home n start (slots_of keys values n from) (k + 1) q (spot n gap 1)) (sym sets.slots) on),
                  table-put _ _ _ _ some _ _ s.shape w.1 _ y.0 (away.0 - 1) _ s.within low-d here less' sets on.ordered,
                );
          }

      -- Nothing moves back from there: the gap is freed.
      pub gap-stop : IsNear n from start → (get_or bytes next 0 < 32) ⊎ (240 ≤ get_or bytes next 0)
          → SetsSlot keys values n bytes new gap 0 None
          → ClosesGap keys values n from new start
      gap-stop near stops sets = record {
        long = sets.long ∙ s.long;
        closes = λ hash x table there room.
            let w = s.walk hash x table there room in
            let slots = slots_of keys values n bytes in
            let home : K × V → ℕ = λ p. home_of n (hash p) in
            let more : k + 1 < n = closing-less home n (homes hash) start (slots_of keys values n from) k slots gap begun w.0 room in
            let was = s.rest (k + 1) (omega arith) more in
            let far : get_or from (spot n start (k + 1)) 0 < 240 = near.near k more (λ e l. s.run e l (omega arith)) in
            let far' : get_or bytes next 0 < 240 = subst (λ p. get_or bytes p 0 < 240) (sym there-is)
            (subst (λ m. m < 240) (sym was) far) in
            let low : get_or bytes next 0 < 32 = elim stops [ inl l ↦ l | inr h ↦ absurd (omega (arith, far', h)) ] in
            let done = closing-free home n (homes hash) start (slots_of keys values n from) k slots gap begun w.0 (λ y e a.
            let a' : IsAway home n slots next y e = subst (λ p. IsAway home n slots p y e) (sym next-is) a in
            omega (arith, w.1.marks next e y a', low)) in (
              table-free keys values hash n some bytes new s.shape w.1 gap s.within sets done.0,
              subst (λ q. Closed (slots_of keys values n from) q start) (sym sets.slots) done.1,
            );
      }

    -- The walk goes less than a round.
    pub gap-ends : (k : ℕ) (bytes : List ℕ) (gap : ℕ) → n ≤ k → Gap k bytes gap → ClosesGap keys values n from bytes start
    gap-ends k bytes gap all s = record {
      long = s.long;
      closes = λ hash x table there room.
          let w = s.walk hash x table there room in
          absurd (omega (arith, closing-less _ _ (homes hash) _ _ _ _ _ begun w.0 room));
    }
