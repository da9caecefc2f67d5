-- Going back to a marked state.
use Rattle.std.specs.Prelude.{◌≡◌, ℕ, ◌-◌, ◌%◌, max, nat_le, nat_lt, ◌==◌, ◌&&◌, ◌||◌, if◌then◌else◌, Bool, IsTrue, List, [], ◌∷◌, length, drop}
use Rattle.arena_rules.specs.State.{State, Chunk, start_of, cursor_of, top_of, is_range_used}

-- how many chunks there were, and the newest cursor, which is 16 without a chunk
pub record Point : Type 0 where
  pub chunks : ℕ
  pub cursor : ℕ

abbrev pub mark_of : State → Point
mark_of state = record { chunks = length state.chunks; cursor = cursor_of state.chunks }

-- the n oldest chunks
abbrev pub first_chunks : ℕ → List Chunk → List Chunk
first_chunks n chunks = drop (length chunks - n) chunks

-- the newest cursor, raised to this address if it is lower
abbrev pub raised : ℕ → List Chunk → List Chunk
raised c [] = []
raised c (newest ∷ older) = record newest { cursor = max newest.cursor c } ∷ older

-- The chunks that there were at the mark, with the newest cursor raised to the mark's.
abbrev pub back : Point → State → State
back mark state = record state { chunks = raised mark.cursor (first_chunks mark.chunks state.chunks) }

-- The state has at least as many chunks as the mark, and the mark's cursor is in the last of those, at a multiple of
-- the least alignment; or the mark is that of a growing arena without a chunk.
abbrev pub accepts : Point → State → Bool
accepts mark state =
    if mark.chunks == 0 then mark.cursor == 16 && state.is_growing
    else nat_le mark.chunks (length state.chunks) && nat_le (start_of (first_chunks mark.chunks state.chunks)) mark.cursor
    && nat_le mark.cursor (top_of (first_chunks mark.chunks state.chunks)) && mark.cursor % state.min_align == 0

-- the mark's part: the addresses of the mark's chunks, in the newest of them those from the mark's cursor on
abbrev pub is_in_part : Point → State → ℕ → Bool
is_in_part mark state addr =
    nat_lt addr (top_of (first_chunks mark.chunks state.chunks))
    && (nat_lt addr (start_of (first_chunks mark.chunks state.chunks)) || nat_le mark.cursor addr)

-- An accepted mark still is accepted, in the same generation, with the same part, and what is in use before and after
-- stays in the part, if it was there.
pub record KeepsMark (mark : Point) (old new : State) : Type 0 where
  pub generation : new.generation ≡ old.generation
  pub accepted : IsTrue (accepts mark new)
  pub part : (addr : ℕ) → is_in_part mark new addr ≡ is_in_part mark old addr
  pub used : (addr n : ℕ) → IsTrue (is_range_used new.chunks addr n) → IsTrue (is_range_used (back mark old).chunks addr n)
      → IsTrue (is_range_used (back mark new).chunks addr n)
