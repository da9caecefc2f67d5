-- What the calls do to a cursor: a step of the arena's rules, in an arena that doesn't grow.
use Rattle.std.specs.Prelude.{◌≡◌, ℕ, ◌+◌, ◌-◌, ◌%◌, ◌≤◌, Bool, true, false, IsTrue, nat_le, nat_lt, ◌&&◌, ◌||◌, ◌==◌, if◌then◌else◌, Option, Some, None, List, [], ◌∷◌}
use Rattle.arena_rules.specs.State.{State, Chunk, AreApart, is_min_align}
use Rattle.arena_rules.specs.Moves.{Outcome, Resizing, growing, shrinking}
use Rattle.arena_rules.specs.Moves.Resizing.{Stays, Moves, Anew, Refused}
use Rattle.arena_cursor.specs.declared.cursor.Cursor.{Cursor}

-- the cursor and the end are multiples of the least alignment
abbrev pub are_aligned : Cursor → Bool
are_aligned at = is_min_align at.min_align && at.cursor % at.min_align == 0 && at.end % at.min_align == 0

-- the cursor is between its start, which is above 0, and its end
abbrev pub is_valid : Cursor → Bool
is_valid at = nat_lt 0 at.start && nat_le at.start at.cursor && nat_le at.cursor at.end && are_aligned at

-- the addresses of a block are between the cursor and the end
abbrev pub is_in_use : Cursor → ℕ → ℕ → Bool
is_in_use at addr size = nat_le at.cursor addr && nat_le (addr + size) at.end

-- the block has no byte in the chunk: it is empty, or below the start or past the end
abbrev pub is_outside : Cursor → ℕ → ℕ → Bool
is_outside at addr size = size == 0 || nat_lt at.end addr || nat_le (addr + size) at.start

-- the cursor may go back to this address
abbrev pub is_mark : Cursor → ℕ → Bool
is_mark at mark = nat_le at.cursor mark && nat_le mark at.end && mark % at.min_align == 0

-- the chunk that the cursor is in
abbrev pub chunk_of : Cursor → Chunk
chunk_of at = record { base = at.start; size = at.end - at.start; cursor = at.cursor }

-- an arena that doesn't grow, with this one chunk
abbrev pub arena_of : Cursor → State
arena_of at = record { min_align = at.min_align; is_growing = false; generation = 0; chunks = chunk_of at ∷ [] }

-- an arena that grows, with this newest chunk over older ones
abbrev pub arena_over : Cursor → ℕ → List Chunk → State
arena_over at n older = record { min_align = at.min_align; is_growing = true; generation = n; chunks = chunk_of at ∷ older }

-- where the cursor is after an address was found, or none was
abbrev pub MovesTo : Cursor → Cursor → Option ℕ → Type 0
MovesTo old new None = new ≡ old
MovesTo old new (Some p) = new ≡ record old { cursor = p }

-- A step of the rules: this is its answer, and the cursor afterwards is that of its chunk.
pub record IsStep (rule : Option Outcome) (old new : Cursor) (answer : Option ℕ) : Type 0 where
  pub outcome : rule ≡ Some (record { answer = answer; state = arena_of new })
  pub start : new.start ≡ old.start
  pub end : new.end ≡ old.end

-- the answer that a code and an address stand for: the address with code 0, none with another code
abbrev pub answer_of : ℕ → ℕ → Option ℕ
answer_of code addr = if code == 0 then Some addr else None

-- the rule refuses at once to resize the block
abbrev pub is_refused : Resizing → Bool
is_refused Refused = true
is_refused Stays = false
is_refused (Moves q) = false
is_refused Anew = false

-- the code for a block without a byte in the chunk: 6 if the rule allocates it again, 7 if it stays
abbrev pub code_outside : Resizing → ℕ
code_outside Anew = 6
code_outside Stays = 7
code_outside (Moves q) = 7
code_outside Refused = 7

-- whether the rule refuses at once to grow a block at this address of the cursor's arena, from a size and alignment to others
unfoldable pub refuses_growth : Cursor → ℕ → ℕ → ℕ → ℕ → ℕ → Bool
refuses_growth at p size align new_size new_align = is_refused (growing (arena_of at) p size align new_size new_align)

-- the code for one without a byte in the chunk that grows, and for one that shrinks
unfoldable pub growth_outside : Cursor → ℕ → ℕ → ℕ → ℕ → ℕ → ℕ
growth_outside at p size align new_size new_align = code_outside (growing (arena_of at) p size align new_size new_align)

unfoldable pub shrinking_outside : Cursor → ℕ → ℕ → ℕ → ℕ → ℕ → ℕ
shrinking_outside at p size align new_size new_align = code_outside (shrinking (arena_of at) p size align new_size new_align)

-- The code of the first that is wrong: 3 for the cursor, 2 for a layout, 4 for the sizes, or for a block that isn't in use
-- but has a byte in the chunk. Without one the code is the last number. If nothing is wrong, it is 5 if the rule refuses to
-- resize the block, otherwise 0 or 1.
abbrev pub IsCode : Bool → Bool → Bool → Bool → Bool → Bool → ℕ → ℕ → Type 0
IsCode false layouts sizes used outside refused other code = code ≡ 3
IsCode true false sizes used outside refused other code = code ≡ 2
IsCode true true false used outside refused other code = code ≡ 4
IsCode true true true false false refused other code = code ≡ 4
IsCode true true true false true refused other code = code ≡ other
IsCode true true true true outside true other code = code ≡ 5
IsCode true true true true outside false other code = code ≤ 1

-- The new block is in use, and apart from each block in use that the old one was apart from.
pub record IsResized (old new : Cursor) (addr size new_addr new_size : ℕ) : Type 0 where
  pub used : IsTrue (is_in_use new new_addr new_size)
  pub apart : (q n : ℕ) → IsTrue (is_in_use old q n) → AreApart addr size q n → AreApart new_addr new_size q n
