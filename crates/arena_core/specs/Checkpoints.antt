-- Marks of an arena's state.
use Rattle.std.specs.Prelude.{◌≡◌, IsTrue, ℕ, ◌-◌, ◌==◌, ◌&&◌, Bool, List, length, drop}
use Rattle.arena_rules.specs.State.{State, cursor_of, is_used, is_range_used}
use Rattle.arena_rules.specs.Back.{Point, back, first_chunks, raised, accepts, KeepsMark}
use Rattle.arena_store.specs.Memory.{Memory, image}
use Rattle.arena_core.specs.BlockCalls.{AreValid}
use Rattle.arena_core.specs.declared.rewind.Checkpoint.{Checkpoint}

abbrev pub checkpoint_of : State → Checkpoint
checkpoint_of state = record { generation = state.generation; chunks = length state.chunks; addr = cursor_of state.chunks }

abbrev pub mark_at : Checkpoint → Point
mark_at c = record { chunks = c.chunks; cursor = c.addr }

-- the arena is of the mark's generation, and its state accepts the mark
abbrev pub is_accepted : Checkpoint → State → Bool
is_accepted c state = c.generation == state.generation && accepts (mark_at c) state

-- The arena still accepts the mark, with the same part, and what is in use before and after a call stays in it, if it
-- was there.
abbrev pub KeepsCheckpoint : Checkpoint → State → State → Type 0
KeepsCheckpoint c old new = IsTrue (is_accepted c new) × KeepsMark (mark_at c) old new

-- the bytes of the n oldest chunks, as lists in order, newest first
abbrev pub first_bytes : ℕ → List (List ℕ) → List (List ℕ)
first_bytes n bytes = drop (length bytes - n) bytes

-- the oldest chunks alone
abbrev pub with_first : ℕ → Memory → Memory
with_first n memory = record {
  state = record memory.state { chunks = first_chunks n memory.state.chunks };
  statistics = memory.statistics;
  bytes = first_bytes n memory.bytes;
}

abbrev pub with_raised : ℕ → Memory → Memory
with_raised c memory = record {
  state = record memory.state { chunks = raised c memory.state.chunks };
  statistics = memory.statistics;
  bytes = memory.bytes;
}

-- the memory of an arena that went back to a mark
abbrev pub sent_back : Checkpoint → Memory → Memory
sent_back c memory = record {
  state = back (mark_at c) memory.state;
  statistics = memory.statistics;
  bytes = first_bytes c.chunks memory.bytes;
}

-- What going back does to the rest: the arena's kind stays, nothing comes into use, and what is in use keeps its bytes.
pub record GoesBack (old new : Memory) : Type 0 where
  pub valid : AreValid old new
  pub generation : new.state.generation ≡ old.state.generation
  pub min_align : new.state.min_align ≡ old.state.min_align
  pub is_growing : new.state.is_growing ≡ old.state.is_growing
  pub fewer : (addr n : ℕ) → IsTrue (is_range_used new.state.chunks addr n) → IsTrue (is_range_used old.state.chunks addr n)
  pub bytes : (p : ℕ) → IsTrue (is_used new.state p) → image new p ≡ image old p
