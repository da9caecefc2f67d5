-- The cursor of the newest chunk, and where it may move.
use Rattle.std.proofs.lemmas.Bool.Decides.{nat_tests}
use Rattle.std.proofs.Common.{◌≡◌, ℕ, ◌+◌, ◌-◌, ◌%◌, ◌^◌, ◌<◌, ◌≤◌, arith, List}
use Rattle.arena_rules.specs.State.{State, Chunk, IsValid, start_of, cursor_of, top_of, floor_of, with_cursor, with_newest_cursor}
use Rattle.arena_rules.specs.Moves.{set_cursor}
use Rattle.arena_rules.proofs.RoundingLemmas.{min_align_multiple}

pub start_positive : (state : State) → IsValid state → 0 < start_of state.chunks
start_positive state valid = grind arith

pub cursor_within : (state : State) → IsValid state → (start_of state.chunks ≤ cursor_of state.chunks)
    × (cursor_of state.chunks ≤ top_of state.chunks)
cursor_within state valid = grind arith

pub cursor_aligned : (state : State) → IsValid state → cursor_of state.chunks % state.min_align ≡ 0
cursor_aligned state valid = grind arith

-- data ends are multiples of 16
pub top_units : (state : State) → IsValid state → top_of state.chunks % 16 ≡ 0
top_units state valid = grind arith

pub top_aligned : (state : State) → IsValid state → top_of state.chunks % state.min_align ≡ 0
top_aligned state valid = min_align_multiple (top_of state.chunks) state.min_align valid.min_align (top_units state valid)

-- the newest chunk ends at least 48 addresses before the last one
pub top_le : (state : State) → IsValid state → top_of state.chunks + 48 ≤ 2 ^ 64 - 1
top_le state valid = grind arith

-- A cursor may be any multiple of the least alignment in the newest chunk.
pub valid_set : (state : State) (p : ℕ) → IsValid state → start_of state.chunks ≤ p → p ≤ top_of state.chunks → p % state.min_align ≡ 0
    → IsValid (with_cursor p state)
valid_set state p valid low high aligned = grind (arith, nat_tests)

pub set_cursor_valid : (state : State) (p : ℕ) → IsValid state → start_of state.chunks ≤ p → p ≤ top_of state.chunks
    → p % state.min_align ≡ 0
    → IsValid (set_cursor p state)
set_cursor_valid state p valid low high aligned = grind (arith, nat_tests, valid_set)

pub valid_moved : (state : State) (p : ℕ) → IsValid state → start_of state.chunks ≤ p → p ≤ cursor_of state.chunks → p % state.min_align ≡ 0
    → IsValid (with_cursor p state)
valid_moved state p valid low high aligned = valid_set state p valid low (omega (arith, cursor_within state valid)) aligned

-- another cursor moves no base and no data end
pub start_set : (p : ℕ) → (chunks : List Chunk) → start_of (with_newest_cursor p chunks) ≡ start_of chunks
start_set p chunks = grind arith

pub top_set : (p : ℕ) → (chunks : List Chunk) → top_of (with_newest_cursor p chunks) ≡ top_of chunks
top_set p chunks = grind arith

-- a cursor that moved down is at its new address; without a chunk it doesn't move
pub cursor_set : (p : ℕ) → (chunks : List Chunk) → start_of chunks ≤ p → p ≤ cursor_of chunks → cursor_of (with_newest_cursor p chunks) ≡ p
cursor_set p chunks low high = grind arith

pub top_floor : (chunks : List Chunk) → top_of chunks ≤ floor_of chunks
top_floor chunks = grind arith

pub floor_near : (chunks : List Chunk) → floor_of chunks ≤ top_of chunks + 4096
floor_near chunks = grind arith
