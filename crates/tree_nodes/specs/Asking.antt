-- Which blocks calls that place nodes ask their arena for.
use Rattle.std.specs.Prelude.{ℕ, ◌*◌, ◌==◌, if◌then◌else◌, Result, Ok, Err, Option}
use Rattle.arena_chunks.specs.Source.{View}
use Rattle.arena_store.specs.declared.block.Block.{Block}
use Rattle.arena_items.specs.Asks.{Ask, NoBlock, Fresh, Asked, TakesBlock, solid, refusal}
use Rattle.arena_items.specs.declared.room.AllocError.{AllocError}
use Rattle.arena_items.specs.declared.room.Growth.{Growth}
use Rattle.arena_items.specs.declared.room.Growth.TheVariants.{GrowsTo}
use Rattle.arena_vec.specs.Growth.{amortised_growth}

-- The arena is asked for this and for nothing else. What is returned has that block, or the one of before if none is asked
-- for; or there is no such block.
abbrev pub AsksFor : {X : Type 0} → Ask Block → Option Block → (X → Block) → View → View → Result X AllocError → Type 0
AsksFor ask before block old new (Ok x) = TakesBlock ask before old new (solid (block x))
AsksFor ask before block old new (Err e) = Asked ask old new (refusal e)

-- a list with room for so many nodes
abbrev pub list_ask : {B : Type 0} → ℕ → Ask B
list_ask nodes = if nodes == 0 then NoBlock else Fresh (nodes * 88) 8

-- how a list grows for so many nodes: one with no storage gets this room, another grows as vectors do
abbrev pub list_growth : (cap required room : ℕ) → Growth
list_growth cap required room = if cap == 0 then GrowsTo room else amortised_growth 88 cap required
