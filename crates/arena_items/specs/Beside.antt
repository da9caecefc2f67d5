-- Values in one arena, and what becomes of them in calls on some of their blocks.
use Rattle.std.specs.Prelude.{◌≡◌, List, [], ◌++◌}
use Rattle.arena_chunks.specs.Frame.{AreAllApart, Frame}
use Rattle.arena_chunks.specs.Memory.{Memory}
use Rattle.arena_store.specs.declared.block.Block.{Block}
use Rattle.arena_items.specs.declared.values.InArena.{Ghosts}

-- Both are held, and their blocks are apart.
pub record AreBeside {V W : Type 0} (one : Ghosts V) (other : Ghosts W) (memory : Memory) (v : V) (w : W) : Type 0 where
  pub first : one.is_held memory v
  pub second : other.is_held memory w
  pub apart : AreAllApart (one.footprint memory v) (other.footprint memory w)

-- the blocks of both
abbrev pub both_blocks : {V W : Type 0} → Ghosts V → Ghosts W → Memory → V → W → List Block
both_blocks one other memory v w = one.footprint memory v ++ other.footprint memory w

-- A call on the first leaves the second, and writes nothing else.
pub record LeavesSecond {V W : Type 0} (one : Ghosts V) (other : Ghosts W) (old new : Memory) (v u : V) (w : W) : Type 0 where
  pub beside : AreBeside one other new u w
  pub means : other.means new w ≡ other.means old w
  pub frame : Frame old new (both_blocks one other old v w) (both_blocks one other new u w)

-- A call on the second leaves the first.
pub record LeavesFirst {V W : Type 0} (one : Ghosts V) (other : Ghosts W) (old new : Memory) (v : V) (w u : W) : Type 0 where
  pub beside : AreBeside one other new v u
  pub means : one.means new v ≡ one.means old v
  pub frame : Frame old new (both_blocks one other old v w) (both_blocks one other new v u)

-- After a call the value is held, and nothing else in the arena was written.
pub record Moves {V : Type 0} (kind : Ghosts V) (old new : Memory) (v w : V) : Type 0 where
  pub held : kind.is_held new w
  pub frame : Frame old new (kind.footprint old v) (kind.footprint new w)

-- A value that was placed since then: what was in use stays, and is apart from its blocks.
pub record IsNew {V : Type 0} (kind : Ghosts V) (old new : Memory) (v : V) : Type 0 where
  pub held : kind.is_held new v
  pub frame : Frame old new [] (kind.footprint new v)
