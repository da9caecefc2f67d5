-- Blocks that are placed in the newest chunk, or shrink there.
use Rattle.std.proofs.lemmas.Bool.Decides.{nat_tests}
use Rattle.std.proofs.Common.{◌≡◌, ℕ, ◌+◌, ◌<◌, ◌≤◌, sym, arith, Some, None, Option, IsTrue}
use Rattle.std.specs.Prelude.{IfSome}
use Rattle.std.proofs.lemmas.Bool.{cases_lt}
use Rattle.arena_rules.specs.Rounding.{is_power}
use Rattle.arena_rules.specs.State.{State, IsValid, start_of, cursor_of, top_of, with_cursor}
use Rattle.arena_rules.specs.Search.{place}
use Rattle.arena_rules.specs.Moves.{shrink_step}
use Rattle.arena_rules.specs.declared.place.Place.{Place}
use Rattle.arena_rules.proofs.RoundingLemmas.{down_le}
use Rattle.arena_rules.proofs.PlaceLemmas.{IsPlace, is_place}
use Rattle.arena_rules.proofs.CursorLemmas.{start_positive, cursor_within, valid_set, valid_moved}
use Rattle.arena_rules.proofs.MoveLemmas.{step_aligned}
use Rattle.plain_machine.specs.Answers.{EndsWithin}

pub placed : (state : State) (size align p : ℕ) → IsValid state → IsTrue (is_power align) → place state size align ≡ Some p
    → IsPlace (start_of state.chunks) (cursor_of state.chunks) size align state.min_align p
placed state size align p valid power found =
    is_place (start_of state.chunks) (cursor_of state.chunks) size align state.min_align p
    (start_positive state valid) power valid.min_align found

pub place_moved : (state : State) (size align : ℕ) (o : Option ℕ) → IsValid state → IsTrue (is_power align) → o ≡ place state size align
    → IfSome o (λ p. IsValid (with_cursor p state))
place_moved state size align None valid power found = tt
place_moved state size align (Some p) valid power found =
    let spot = placed state size align p valid power (sym found) in
    valid_moved state p valid spot.low (omega (arith, spot.high)) spot.min_aligned

pub place_within : (state : State) (size align : ℕ) (o : Option ℕ) → IsValid state → IsTrue (is_power align) → o ≡ place state size align
    → IfSome o (λ p. p + size ≤ cursor_of state.chunks)
place_within state size align None valid power found = tt
place_within state size align (Some p) valid power found = (placed state size align p valid power (sym found)).high

-- a block at the cursor ends in the newest chunk
pub block_top : (state : State) (p size : ℕ) → IsValid state → p ≡ cursor_of state.chunks → (0 < size → p + size ≤ top_of state.chunks)
    → p + size ≤ top_of state.chunks
block_top state p size valid at end = grind (arith, nat_tests, cases_lt, cursor_within)

-- A block at the cursor may move up, where it ends in the newest chunk.
pub shrink_moved : (state : State) (block : Place) (size align : ℕ) → IsValid state → IsTrue (is_power align)
    → block.addr ≡ cursor_of state.chunks
    → (0 < block.size → block.addr + block.size ≤ top_of state.chunks)
    → IsValid (with_cursor (block.addr + shrink_step state block.size size align) state)
shrink_moved state block size align valid power at end =
    grind (arith, nat_tests, valid_set, cursor_within, down_le, block_top, step_aligned)

-- a block that was placed at p ends at `top` or below, if one at p does
pub ends_within : (size p top : ℕ) (told : Option (Option ℕ)) → IfSome told (λ answer. answer ≡ Some p) → (0 < size → p + size ≤ top)
    → EndsWithin size told top
ends_within size p top told is end = grind (arith, nat_tests)
