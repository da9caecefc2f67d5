-- What each status says of the picture.
use Rattle.std.specs.Prelude.{◌≡◌, ℕ, ◌<◌, List, map, Some}
use Rattle.std.specs.FinMap as finite
use Rattle.arena_rules.specs.State.{State}
use Rattle.arena_rules.specs.declared.place.Place.{Place}
use Rattle.call_rules.specs.declared.calls.Call.{Call}
use Rattle.call_rules.specs.declared.calls.Reply.{Reply}
use Rattle.arena_chunks.specs.Memory.{block_at}
use Rattle.arena_runs.specs.Runs.{Runs}
use Rattle.arena_chunks.specs.Walks.{told_chunk}
use Rattle.arena_store.specs.declared.block.Block.{Block}
use Rattle.arena_calls.specs.Ends.{Outside, IsWritten, EndsWith}
use Rattle.arena_calls.specs.declared.status.Status.{Status}
use Rattle.arena_drawing.specs.Shapes.{shapes_of, place_from, StandsIn}
use Rattle.arena_drawing.specs.Text.{svg_text}

-- the picture of an arena in this state, with these blocks by name
abbrev pub picture_of : State → List (ℕ × Block) → List ℕ
picture_of state held =
    let chunks = map told_chunk state.chunks in svg_text chunks (shapes_of chunks held)

-- the block is in the used part of a chunk of this state
abbrev pub HasPlace : State → Block → Type 0
HasPlace state block =
    let chunks = map told_chunk state.chunks in StandsIn 0 chunks block (place_from 0 chunks block)

-- The calls were run, and the picture of the arena and of the blocks that names hold afterwards was written, as this
-- says. Each block with bytes has its place in a chunk.
pub record RunsToPicture (old new : Outside) (calls : List Call) (Is : IsWritten) : Type 0 where
  pub replies : List Reply
  pub held : List (ℕ × Block)
  pub runs : Runs old.arena new.arena calls replies held
  pub written : Is old.written new.written (picture_of new.arena.memory.state held)
  pub placed : (name : ℕ) (p : Place) → finite.get runs.last.held name ≡ Some p → 0 < p.size
      → HasPlace new.arena.memory.state (block_at runs.last.state.generation p)

-- A run ends as one of `arena_calls` does, except that the picture is what was written of it.
abbrev pub Draws : Status → Outside → Outside → Type 0
Draws = EndsWith RunsToPicture
