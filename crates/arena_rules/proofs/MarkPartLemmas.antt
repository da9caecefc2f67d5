-- Which blocks in use are in a mark's part.
use Rattle.std.proofs.Common.{ℕ, zero, suc, ◌-◌, ◌<◌, arith, leb-true, List, [], ◌∷◌, IsTrue, length, drop}
use Rattle.std.specs.Prelude.{◌&&◌, ◌||◌, nat_le, nat_lt}
use Rattle.std.proofs.lemmas.Bool.{and_parts}
use Rattle.std.proofs.lemmas.Bool.Decides.{nat_tests}
use Rattle.arena_rules.specs.State.{State, Chunk, AreChunks, IsValid, start_of, cursor_of, top_of, is_range_used}
use Rattle.arena_rules.specs.Back.{Point, raised, back, is_in_part}
use Rattle.arena_rules.proofs.BackLemmas.{valid_after, floor_after}
use Rattle.arena_rules.proofs.CursorLemmas.{top_floor}
use Rattle.arena_rules.proofs.UsedLemmas.{used_under, used_beside}

module _ (m addr n : ℕ) (some : 0 < n) where
  -- the address is in these chunks, in the newest of them from this cursor on
  abbrev IsPart : ℕ → List Chunk → ℕ → Type 0
  IsPart c chunks at = IsTrue (nat_lt at (top_of chunks) && (nat_lt at (start_of chunks) || nat_le c at))

  -- what is below the data end of the older chunks is in use by one of them
  in_first : (k : ℕ) (chunks : List Chunk) → AreChunks m chunks → addr < top_of (drop k chunks) → IsTrue (is_range_used chunks addr n)
      → IsTrue (is_range_used (drop k chunks) addr n)
  in_first zero chunks valid below used = used
  in_first (suc k) chunks valid below used = grind (arith, nat_tests, top_floor, floor_after, in_first k)

  in_raised : (c : ℕ) (chunks : List Chunk) → AreChunks m chunks → IsPart c chunks addr → IsTrue (is_range_used chunks addr n)
      → IsTrue (is_range_used (raised c chunks) addr n)
  in_raised c chunks valid marked used = grind (arith, nat_tests)

  raised_in : (c : ℕ) (chunks : List Chunk) → AreChunks m chunks → IsTrue (is_range_used (raised c chunks) addr n) → IsPart c chunks addr
  raised_in c chunks valid used = grind (arith, nat_tests, used_under)

  -- if the newest cursor is in a part, so is everything in use
  past_cursor : (c k : ℕ) (chunks : List Chunk) → AreChunks m chunks → IsTrue (is_range_used chunks addr n)
      → IsPart c (drop k chunks) (cursor_of chunks) → IsPart c (drop k chunks) addr
  past_cursor c k [] valid used marked = cc
  past_cursor c (suc k) (newest ∷ older) valid used marked =
      grind (arith, nat_tests, top_floor (drop k older), floor_after m k older valid.2)
  past_cursor c zero (newest ∷ older) valid used marked =
      grind (arith, nat_tests, used_under m addr n, used_beside m addr n (newest ∷ older) valid some used)

-- What is in use and begins in a mark's part stays in use when the state goes back to the mark; nothing else does.
pub part_left : (mark : Point) (state : State) (addr n : ℕ) → IsValid state → 0 < n → IsTrue (is_range_used state.chunks addr n)
    → IsTrue (is_in_part mark state addr)
    → IsTrue (is_range_used (back mark state).chunks addr n)
part_left mark state addr n valid some used inside =
    let k = length state.chunks - mark.chunks in
    let parts = and_parts (nat_lt addr (top_of (drop k state.chunks))) _ inside in
    in_raised state.min_align addr n some mark.cursor (drop k state.chunks) (valid_after state.min_align k state.chunks valid.chunks) inside
    (in_first state.min_align addr n some k state.chunks valid.chunks (leb-true _ _ parts.0) used)

pub left_part : (mark : Point) (state : State) (addr n : ℕ) → IsValid state → 0 < n → IsTrue (is_range_used (back mark state).chunks addr n)
    → IsTrue (is_in_part mark state addr)
left_part mark state addr n valid some left =
    let k = length state.chunks - mark.chunks in
    raised_in state.min_align addr n some mark.cursor (drop k state.chunks) (valid_after state.min_align k state.chunks valid.chunks) left

pub cursor_part : (mark : Point) (state : State) (addr n : ℕ) → IsValid state → 0 < n → IsTrue (is_range_used state.chunks addr n)
    → IsTrue (is_in_part mark state (cursor_of state.chunks)) → IsTrue (is_in_part mark state addr)
cursor_part mark state addr n valid some used inside =
    past_cursor state.min_align addr n some mark.cursor (length state.chunks - mark.chunks) state.chunks valid.chunks used inside
