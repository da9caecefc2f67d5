-- Two calls of an arena, one after the other.
use Rattle.std.specs.Prelude.{ℕ, ◌⊎◌, Result, Ok, Err}
use Rattle.arena_chunks.specs.Source.{View}
use Rattle.arena_chunks.specs.Answers.{answer_of}
use Rattle.arena_chunks.specs.Answers.Answer.{Placed}
use Rattle.arena_chunks.specs.BlockCalls.{PlacesBlock}
use Rattle.arena_store.specs.declared.block.Block.{Block}
use Rattle.arena_store.specs.declared.block.ArenaErr.{ArenaErr}

-- A block was placed, and `next` holds of the arena after that and of the block.
pub record AfterPlacing (old : View) (size align : ℕ) (next : View → Block → Type 0) : Type 0 where
  pub between : View
  pub block : Block
  pub placed : PlacesBlock old between size align (Placed block)
  pub follows : next between block

-- A block is placed, and a second call follows, which `next` describes in full. If the first call fails, its error is
-- the result.
abbrev pub PlacesThen : {X : Type 0} → View → View → ℕ → ℕ → (View → Block → Type 0) → Result X ArenaErr → Type 0
PlacesThen old new size align next (Ok x) = AfterPlacing old size align next
PlacesThen old new size align next (Err e) = PlacesBlock old new size align (answer_of (Err e)) ⊎ AfterPlacing old size align next
