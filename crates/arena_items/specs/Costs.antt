-- What it costs to take room for a collection.
use Rattle.std.specs.Prelude.{◌≡◌, ℕ, ◌+◌, ◌-◌, ◌^◌, ◌≤◌, true, false, Result, Err, OnOk, OnErr, IsTrue}
use Rattle.arena_rules.specs.Rounding.{is_layout}
use Rattle.arena_rules.specs.State.{used_bytes, allocated_bytes}
use Rattle.arena_chunks.specs.Memory.{Memory}
use Rattle.arena_chunks.specs.Source.{View}
use Rattle.arena_chunks.specs.Asking.{AsksWithin, IsStarved, IsFull}
use Rattle.arena_store.specs.declared.block.Block.{Block}
use Rattle.arena_items.specs.declared.room.AllocError.{AllocError}
use Rattle.arena_items.specs.declared.room.AllocError.TheVariants.{AllocErr}

-- the bytes in use
abbrev pub used : View → ℕ
used a = used_bytes a.memory.state

-- A block of this size replaces another. At least the bytes that it has more come into use, and at most all of it with
-- its padding.
pub record Brings (old new : View) (size align : ℕ) (block : Block) : Type 0 where
  pub least : used old + size ≤ used new + block.size
  pub most : used new ≤ used old + size + (align - 1)

-- ---- Calls that may take this many bytes

-- An arena that grows still does, and one that doesn't keeps its number of bytes.
pub record KeepsKind (old new : Memory) : Type 0 where
  pub is_growing : new.state.is_growing ≡ old.state.is_growing
  pub allocated : old.state.is_growing ≡ false → allocated_bytes new.state ≡ allocated_bytes old.state

-- A call that brings at most `bytes` into use, less what the credit rises or plus what it falls. It asks for no more
-- than that takes. In an arena that grows it is refused only if it is starved, and in a fixed one only if the arena has
-- fewer bytes.
pub record Costs {X : Type 0} (far bytes before after : ℕ) (old new : View) (result : Result X AllocError) : Type 0 where
  pub takes : used new + after ≤ used old + (bytes + before)
  pub asks : AsksWithin (used old + (bytes + before)) old new
  pub starved : old.memory.state.is_growing ≡ true → (k : ℕ) → result ≡ Err (AllocErr k) → IsStarved far old new
  pub full : old.memory.state.is_growing ≡ false → (k : ℕ) → result ≡ Err (AllocErr k) → IsFull (used old + (bytes + before)) old

-- a data end of the newest chunk up to which no block is refused for lack of addresses
abbrev pub farthest : ℕ
farthest = 2 ^ 63 + 2 ^ 62

-- A block of this layout with its padding fits in `bytes` and the credit before. The credit afterwards fits too:
-- together with the block if the call succeeds, by itself if it fails.
pub record Covers {X : Type 0} (bytes before after size align : ℕ) (result : Result X AllocError) : Type 0 where
  pub layout : IsTrue (is_layout size align)
  pub small : align ≤ 16
  pub bounded : size ≤ 2 ^ 60
  pub within : size + (align - 1) ≤ bytes + before
  pub ok : OnOk result (size + (align - 1) + after ≤ bytes + before)
  pub err : OnErr result (after ≤ bytes + before)
