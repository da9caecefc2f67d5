-- Ranges in use: where they are, and which remain with a new cursor or a new chunk.
use Rattle.std.proofs.Common.{ℕ, ◌+◌, ◌^◌, ◌<◌, ◌≤◌, ◌⊎◌, arith, List, [], ◌∷◌, IsTrue}
use Rattle.std.proofs.lemmas.Bool.Decides.{nat_tests}
use Rattle.arena_rules.proofs.CursorLemmas.{top_le}
use Rattle.arena_rules.specs.State.{State, Chunk, AreChunks, IsValid, start_of, cursor_of, top_of, floor_of, with_newest_cursor, is_range_used}

-- a range in the newest chunk stays in use if the cursor moves to a place below it
pub used_set : (q addr n : ℕ) → (chunks : List Chunk) → (cursor_of chunks ≤ addr → q ≤ addr) → IsTrue (is_range_used chunks addr n)
    → IsTrue (is_range_used (with_newest_cursor q chunks) addr n)
used_set q addr n chunks low used = grind (arith, nat_tests)

-- what is in use is below the floor of the next chunk
pub used_under : (m addr n : ℕ) → (chunks : List Chunk) → AreChunks m chunks → 0 < n → IsTrue (is_range_used chunks addr n)
    → addr + n ≤ floor_of chunks
used_under m addr n [] valid some used = cc
used_under m addr n (newest ∷ older) valid some used = grind (arith, nat_tests, used_under m addr n older valid.2 some)

-- each chunk begins at 4096 or above
pub floor_least : (m : ℕ) → (chunks : List Chunk) → AreChunks m chunks → 4096 ≤ floor_of chunks
floor_least m [] valid = omega arith
floor_least m (newest ∷ older) valid = omega (arith, floor_least m older valid.2, valid.1)

-- what is in use is at 4096 or above
pub used_low : (state : State) (addr n : ℕ) → IsValid state → 0 < n → IsTrue (is_range_used state.chunks addr n) → 4096 ≤ addr
used_low state addr n valid some = go state.chunks valid.chunks
  where
    go : (chunks : List Chunk) → AreChunks state.min_align chunks → IsTrue (is_range_used chunks addr n) → 4096 ≤ addr
    go [] fine used = cc
    go (newest ∷ older) fine used = grind (arith, nat_tests, fine.0.cursor_low, floor_least state.min_align older fine.2, go older fine.2)

-- what is in use ends at or below the newest chunk's data end
pub used_high : (state : State) (addr n : ℕ) → IsValid state → 0 < n → IsTrue (is_range_used state.chunks addr n)
    → addr + n ≤ top_of state.chunks
used_high state addr n valid some used = grind (arith, nat_tests, used_under)

-- and so below the last address
pub used_below_last : (state : State) (addr n : ℕ) → IsValid state → 0 < n → IsTrue (is_range_used state.chunks addr n) → addr + n < 2 ^ 64
used_below_last state addr n valid some used = omega (arith, used_high state addr n valid some used, top_le state valid)

-- what is in use is at or above the cursor, or below the newest chunk
pub used_beside : (m addr n : ℕ) → (chunks : List Chunk) → AreChunks m chunks → 0 < n → IsTrue (is_range_used chunks addr n)
    → (cursor_of chunks ≤ addr) ⊎ (addr + n ≤ start_of chunks)
used_beside m addr n chunks valid some used = grind (arith, nat_tests, used_under)

-- everything from the cursor on is in use
pub used_from : (p size : ℕ) → (chunks : List Chunk) → 0 < size → start_of chunks ≤ p → p + size ≤ top_of chunks
    → IsTrue (is_range_used (with_newest_cursor p chunks) p size)
used_from p size chunks some low high = grind (arith, nat_tests)

pub used_part : (addr n a k : ℕ) → (chunks : List Chunk) → addr ≤ a → a + k ≤ addr + n → IsTrue (is_range_used chunks addr n)
    → IsTrue (is_range_used chunks a k)
used_part addr n a k [] low high used = used
used_part addr n a k (newest ∷ older) low high used = grind (arith, nat_tests, used_part addr n a k older low high)
