-- Blocks that are given back.
use Rattle.std.proofs.Common.{◌==◌, eqb-true, add-zero, ◌≡◌, ℕ, ◌+◌, ◌<◌, ◌≤◌, refl, arith, List, IsTrue, eq-eqb, ne_eqb, sum, map}
use Rattle.std.proofs.lemmas.Bool.{cond_both}
use Rattle.std.proofs.lemmas.Bool.Decides.{nat_tests}
use Rattle.arena_rules.specs.Rounding.{up}
use Rattle.arena_rules.specs.State.{State, Chunk, IsValid, start_of, cursor_of, top_of, with_cursor, with_newest_cursor, is_range_used, is_place_used, allocated_bytes}
use Rattle.arena_rules.specs.Moves.{dealloc}
use Rattle.arena_rules.specs.Blocks.{LieBeside}
use Rattle.arena_rules.specs.declared.place.Place.{Place}
use Rattle.arena_rules.proofs.RoundingLemmas.{up_ge, up_mod, up_same, up_least, min_align_positive}
use Rattle.arena_rules.proofs.CursorLemmas.{cursor_within, cursor_aligned, top_aligned, valid_set}
use Rattle.arena_rules.proofs.UsedLemmas.{used_under}

-- Only a block at the cursor moves the cursor.
pub dealloc_at : (state : State) (p size : ℕ) → p ≡ cursor_of state.chunks
    → dealloc state p size ≡ with_cursor (up (p + size) state.min_align) state
unfolding dealloc
dealloc_at state p size at = rw (eq-eqb _ _ at) refl

pub dealloc_elsewhere : (state : State) (p size : ℕ) → (p ≡ cursor_of state.chunks → ⊥) → dealloc state p size ≡ state
unfolding dealloc
dealloc_elsewhere state p size other = rw (ne_eqb _ _ other) refl

-- A property of states holds after a block was given back, if it held before and holds at the new cursor.
pub dealloc_by : (P : State → Type 0) (state : State) (p size : ℕ)
    → (p ≡ cursor_of state.chunks → P (with_cursor (up (p + size) state.min_align) state)) → P state → P (dealloc state p size)
unfolding dealloc
dealloc_by P state p size moved still =
    cond_both (p == cursor_of state.chunks) _ _ P (λ at. moved (eqb-true _ _ at)) (λ other. still)

pub dealloc_min_align : (state : State) (p size : ℕ) → (dealloc state p size).min_align ≡ state.min_align
dealloc_min_align state p size = dealloc_by (λ (s : State). s.min_align ≡ state.min_align) state p size (λ at. refl) refl

pub dealloc_is_growing : (state : State) (p size : ℕ) → (dealloc state p size).is_growing ≡ state.is_growing
dealloc_is_growing state p size = dealloc_by (λ (s : State). s.is_growing ≡ state.is_growing) state p size (λ at. refl) refl

pub dealloc_generation : (state : State) (p size : ℕ) → (dealloc state p size).generation ≡ state.generation
dealloc_generation state p size = dealloc_by (λ (s : State). s.generation ≡ state.generation) state p size (λ at. refl) refl

-- another cursor changes no size
pub allocated_moved : (p : ℕ) (chunks : List Chunk)
    → sum (map (λ (c : Chunk). c.size) (with_newest_cursor p chunks)) ≡ sum (map (λ (c : Chunk). c.size) chunks)
allocated_moved p chunks = grind arith

pub dealloc_allocated : (state : State) (p size : ℕ) → allocated_bytes (dealloc state p size) ≡ allocated_bytes state
dealloc_allocated state p size =
    dealloc_by (λ (s : State). allocated_bytes s ≡ allocated_bytes state) state p size (λ at. grind arith) refl

-- A range in use apart from the padded block stays in use.
pub dealloc_keeps : (state : State) (p size addr n : ℕ) → 0 < n → IsTrue (is_range_used state.chunks addr n) → LieBeside state p size addr n
    → IsTrue (is_range_used (dealloc state p size).chunks addr n)
unfolding dealloc
dealloc_keeps state p size addr n some used apart = grind (arith, nat_tests, apart)

-- A block at the cursor is given back.
pub record IsReturn (state : State) (p size q : ℕ) : Type 0 where
  pub valid : IsValid (with_cursor q state)
  pub step : dealloc state p size ≡ with_cursor q state
  pub low : start_of state.chunks ≤ q
  pub high : q ≤ top_of state.chunks

pub is_return : (state : State) (p size q : ℕ) → IsValid state → p ≡ cursor_of state.chunks → p + size ≤ top_of state.chunks
    → q ≡ up (p + size) state.min_align
    → IsReturn state p size q
is_return state p size q valid at fits is =
    let positive = min_align_positive state.min_align valid.min_align in
    let low = up_ge (p + size) state.min_align positive in
    let high = up_least (p + size) state.min_align (top_of state.chunks) positive (top_aligned state valid) fits in
    grind (arith, dealloc_at state p size at, valid_set state q valid, cursor_within state valid, up_mod (p + size) state.min_align)

pub used_filled : (state : State) (place : Place) → 0 < place.size → IsTrue (is_place_used state place)
    → IsTrue (is_range_used state.chunks place.addr place.size)
used_filled state place some used = grind (arith, nat_tests)

-- a block at the cursor ends in the newest chunk
pub block_end : (state : State) (block : Place) → IsValid state → IsTrue (is_place_used state block) → block.addr ≡ cursor_of state.chunks
    → block.addr + block.size ≤ top_of state.chunks
block_end state block valid used at = grind (arith, nat_tests, cursor_within state valid, used_under)

-- A state stays valid if the block was in use or empty.
pub dealloc_valid : (state : State) (block : Place) → IsValid state → IsTrue (is_place_used state block)
    → IsValid (dealloc state block.addr block.size)
dealloc_valid state block valid used =
    dealloc_by IsValid state block.addr block.size
    (λ at. (is_return state block.addr block.size _ valid at (block_end state block valid used at) refl).valid) valid

-- Giving back an empty block changes nothing.
pub dealloc_empty : (state : State) (p : ℕ) → IsValid state → dealloc state p 0 ≡ state
dealloc_empty state p valid =
    let positive = min_align_positive state.min_align valid.min_align in
    let same = up_same (cursor_of state.chunks) state.min_align positive (cursor_aligned state valid) in
    dealloc_by (λ (s : State). s ≡ state) state p 0 (λ at. rw (at, add-zero, same) (grind arith)) refl

-- Nothing comes into use.
pub dealloc_fewer : (state : State) (p size addr n : ℕ) → IsValid state → IsTrue (is_range_used (dealloc state p size).chunks addr n)
    → IsTrue (is_range_used state.chunks addr n)
unfolding dealloc
dealloc_fewer state p size addr n valid used = grind (arith, nat_tests, up_ge, min_align_positive)

pub ruleset return_laws = (dealloc_min_align, dealloc_is_growing, dealloc_generation, dealloc_empty, dealloc_keeps, dealloc_fewer)
