-- A block in place of another, whatever is requested for it; and what a reset ends.
use Rattle.std.specs.Prelude.{◌≡◌, ℕ, ◌+◌, ◌-◌, ◌^◌, ◌%◌, ◌<◌, ◌≤◌, nat_lt, min, if◌then◌else◌, Some, None, [], ◌∷◌, false}
use Rattle.arena_rules.specs.State.{State, IsValid, start_of, cursor_of, top_of, with_cursor}
use Rattle.arena_rules.specs.Moves.{Resizing, resize, anew}
use Rattle.arena_rules.specs.Statistics.{Statistics, one_reallocation, resized}
use Rattle.arena_rules.specs.Causes.{counted}
use Rattle.arena_store.specs.Memory.{Memory, Writes, is_readable, image, bytes_from}
use Rattle.arena_core.specs.Frame.{Frame}
use Rattle.arena_core.specs.BlockCalls.{IsBlockOf}
use Rattle.arena_store.specs.declared.block.Block.{Block}

-- The new block has the first n bytes of the old one, and the rest of the arena is as it was.
pub record Resizes (old new : Memory) (block b : Block) (size align n : ℕ) : Type 0 where
  pub of_layout : IsBlockOf new.state size align b
  pub bytes : bytes_from (image new) b.addr n ≡ bytes_from (image old) block.addr n
  pub frame : Frame old new (block ∷ []) (b ∷ [])
  pub valid : IsValid new.state

-- the same by a move without a request
pub record IsResizedUnasked (way : Resizing) (old new : Memory) (block : Block) (size align : ℕ) (b : Block) : Type 0 where
  pub entry : IsValid old.state
  pub step : resize way old.state block.addr size align 0 ≡ Some (record { answer = Some b.addr; state = new.state })
  pub unasked : anew way (size, align) ≡ None
  pub statistics : new.statistics ≡ resized way old.statistics
  pub resizes : Resizes old new block b size align (min block.size size)

-- the cursor can go down to an address, with the n bytes that begin at it
pub record FitsBelow (state : State) (addr n : ℕ) : Type 0 where
  pub low : start_of state.chunks ≤ addr
  pub high : addr ≤ cursor_of state.chunks
  pub aligned : addr % state.min_align ≡ 0
  pub within : cursor_of state.chunks + n ≤ top_of state.chunks

-- it is there, with these bytes, and a reallocation is counted
pub record IsMovedDown (old new : Memory) (addr n : ℕ) : Type 0 where
  pub state : new.state ≡ with_cursor addr old.state
  pub statistics : new.statistics ≡ one_reallocation old.statistics
  pub bytes : Writes old new addr (bytes_from (image old) (cursor_of old.state.chunks) n)

-- a block was allocated again in place of another, where the count already has the new block
abbrev pub replaced : Statistics → Statistics
replaced statistics = record {
  allocations = if nat_lt statistics.allocations (2 ^ 64 - 1) then statistics.allocations - 1 else statistics.allocations;
  reallocations = counted statistics.reallocations 1;
}

-- No block of some bytes is readable.
abbrev pub NoneReadable : State → Type 0
NoneReadable state = (b : Block) → 0 < b.size → is_readable state b ≡ false
