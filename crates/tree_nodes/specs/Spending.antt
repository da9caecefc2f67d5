-- What calls that place nodes cost: the bytes that come into use, the chunks that are asked for, and why a block was refused.
use Rattle.std.specs.Prelude.{◌≡◌, ℕ, ◌+◌, ◌*◌, ◌^◌, ◌<◌, ◌≤◌, ◌⊎◌, true, false, Result, Ok, Err, Option, Some, None, []}
use Rattle.arena_rules.specs.State.{top_of, allocated_bytes}
use Rattle.arena_chunks.specs.Source.{View}
use Rattle.arena_chunks.specs.Frame.{Frame}
use Rattle.arena_chunks.specs.Asking.{AsksWithin, IsRefusedBySource, IsCounted, IsFull}
use Rattle.arena_items.specs.Costs.{used, KeepsKind}
use Rattle.arena_items.specs.Denied.{Layouts, IsDenied}
use Rattle.arena_items.specs.declared.room.AllocError.{AllocError}
use Rattle.arena_items.specs.declared.room.AllocError.TheVariants.{AllocErr, CapacityOverflow, OutOfMemory}
use Rattle.arena_vec.specs.Credit.{credit_of}
use Rattle.arena_vec.specs.declared.vec.Vec.{Vec}
use Rattle.tree_nodes.specs.declared.node.Node.{Node}

-- the newest data end up to which there is a place for a block of any size that an arena may hold
abbrev pub far_end : ℕ
far_end = 2 ^ 62 + 2 ^ 61

-- An arena that grows had no place for a block: the source refused, or much is held, or the newest data end was far up.
-- Chunks that were made since the start raised it by at most twice their bytes.
abbrev pub IsStarvedBehind : View → View → Type 0
IsStarvedBehind old new =
    IsRefusedBySource old new ⊎ (2 ^ 60 ≤ allocated_bytes new.memory.state)
    ⊎ (far_end + 2 * allocated_bytes old.memory.state < top_of old.memory.state.chunks + 2 * allocated_bytes new.memory.state)

-- A block of one of these layouts was refused in calls that may bring `bytes` into use.
pub record IsRefused (layouts : Layouts) (bytes refused : ℕ) (old new : View) : Type 0 where
  pub counted : IsCounted refused old new
  pub starved : old.memory.state.is_growing ≡ true → IsStarvedBehind old new
  pub full : old.memory.state.is_growing ≡ false → IsFull bytes old
  pub denied : IsDenied layouts new

-- What calls that failed leave: all that was in use, and the cause.
abbrev pub Stops : Layouts → ℕ → View → View → Option AllocError → Type 0
Stops layouts bytes old new None = Unit {0}
Stops layouts bytes old new (Some (AllocErr refused)) = IsRefused layouts bytes refused old new × Frame old.memory new.memory [] []
Stops layouts bytes old new (Some OutOfMemory) = Frame old.memory new.memory [] []
Stops layouts bytes old new (Some CapacityOverflow) = ⊥

-- Calls that may bring `bytes` into use, less what is saved afterwards, and more by what was saved before. They ask for
-- no more than that takes. A block that is refused has one of these layouts.
pub record Spends (layouts : Layouts) (bytes before after : ℕ) (old new : View) (error : Option AllocError) : Type 0 where
  pub takes : used new + after ≤ used old + (bytes + before)
  pub asks : AsksWithin (used old + (bytes + before)) old new
  pub kind : KeepsKind old.memory new.memory
  pub stops : Stops layouts (used old + (bytes + before)) old new error

abbrev pub error_of : {X : Type 0} → Result X AllocError → Option AllocError
error_of (Ok x) = None
error_of (Err e) = Some e

-- ---- Nodes

-- what it costs to append a node to a list, and what the list saved for that
abbrev pub node_cost : ℕ
node_cost = 359

abbrev pub credit : Vec Node → ℕ
credit v = credit_of 88 v.raw.len v.raw.cap

-- Nodes are appended to a list, which may be replaced by a longer one.
abbrev pub SpendsOnMore : Layouts → (bytes before : ℕ) → View → View → Result (Vec Node) AllocError → Type 0
SpendsOnMore layouts bytes before old new (Ok v) = Spends layouts bytes before (credit v) old new None
SpendsOnMore layouts bytes before old new (Err e) = Spends layouts bytes before 0 old new (Some e)
