-- What a call on other blocks leaves of a value.
use Rattle.std.specs.Prelude.{◌≡◌, ℕ, List, IsTrue}
use Rattle.arena_rules.specs.State.{State, is_range_used}
use Rattle.arena_chunks.specs.Memory.{Memory}
use Rattle.arena_chunks.specs.Frame.{AreAllApart}
use Rattle.arena_store.specs.declared.block.Block.{Block}
use Rattle.arena_items.specs.declared.values.InArena.{Ghosts}

-- After a call the value is held, names the same blocks and means the same, and its blocks are apart from those that
-- the call has afterwards.
pub record StaysHeld {V : Type 0} (old new : Memory) (after : List Block) (kind : Ghosts V) (v : V) : Type 0 where
  pub held : kind.is_held new v
  pub footprint : kind.footprint new v ≡ kind.footprint old v
  pub means : kind.means new v ≡ kind.means old v
  pub apart : AreAllApart (kind.footprint new v) after

-- What was in use at the start, and also just before a rollback, is in use after it.
pub record StaysInUse (start old new : State) : Type 0 where
  pub used : (addr n : ℕ) → IsTrue (is_range_used start.chunks addr n) → IsTrue (is_range_used old.chunks addr n)
      → IsTrue (is_range_used new.chunks addr n)
