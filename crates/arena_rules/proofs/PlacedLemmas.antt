-- Where a block is that was just placed: at the cursor.
use Rattle.std.proofs.Common.{◌≡◌, ◌≢◌, ℕ, ◌<◌, arith, Some, length}
use Rattle.std.proofs.lemmas.Bool.Decides.{nat_tests}
use Rattle.std.proofs.lemmas.Option.{none-some, same_Some}
use Rattle.arena_rules.specs.State.{State, cursor_of}
use Rattle.arena_rules.specs.Moves.{Outcome, Resizing, alloc, resize, growing, placed}
use Rattle.arena_rules.specs.Moves.Resizing.{Stays}
use Rattle.arena_rules.proofs.UsedResizeLemmas.{growing_stays}

-- What is returned is the cursor, if there is a chunk.
abbrev pub IsAtCursor : Outcome → Type 0
IsAtCursor outcome = (q : ℕ) → outcome.answer ≡ Some q → 0 < length outcome.state.chunks → q ≡ cursor_of outcome.state.chunks

at_placed : (p : ℕ) (state : State) → IsAtCursor (placed state p)
at_placed p state = grind (arith, same_Some)

pub alloc_at_cursor : (state : State) (size align k : ℕ) (outcome : Outcome) → alloc state size align k ≡ Some outcome → IsAtCursor outcome
unfolding alloc
alloc_at_cursor state size align k outcome step = grind (arith, nat_tests, at_placed, none-some)

moved_at_cursor : (way : Resizing) (state : State) (p size align k : ℕ) (outcome : Outcome) → way ≢ Stays
    → resize way state p size align k ≡ Some outcome → IsAtCursor outcome
moved_at_cursor way state p size align k outcome other step = grind (arith, nat_tests, at_placed, none-some, alloc_at_cursor)

-- A block that is resized stays where it is, or is at the cursor.
pub resize_at_cursor : (way : Resizing) (state : State) (p size align k q : ℕ) (outcome : Outcome)
    → resize way state p size align k ≡ Some outcome → outcome.answer ≡ Some q
    → q ≢ p → 0 < length outcome.state.chunks → q ≡ cursor_of outcome.state.chunks
resize_at_cursor way state p size align k q outcome step is other some =
    grind (arith, nat_tests, same_Some, moved_at_cursor way state p size align k outcome)

-- A block that grows is at the cursor.
pub grow_at_cursor : (state : State) (p size align new_size new_align k : ℕ) (outcome : Outcome)
    → resize (growing state p size align new_size new_align) state p new_size new_align k ≡ Some outcome → IsAtCursor outcome
grow_at_cursor state p size align new_size new_align k outcome step =
    moved_at_cursor _ state p new_size new_align k outcome (growing_stays state p size align new_size new_align) step
