-- Which blocks calls on interners and scoped tables ask their arena for, in order, and what it answers.
use Rattle.std.specs.Prelude.{◌+◌, ◌⊎◌, Bool}
use Rattle.arena_chunks.specs.Answers.{Answer}
use Rattle.arena_chunks.specs.Source.{View}
use Rattle.arena_store.specs.declared.block.Block.{Block}
use Rattle.arena_items.specs.Asks.{Ask, room_ask, table_ask, solid, Asked, TakesBlock}
use Rattle.arena_items.specs.declared.item.Item.{Ghosts}
use Rattle.arena_vec.specs.Growth.{amortised_growth}
use Rattle.arena_vec.specs.declared.vec.Vec.{Vec}
use Rattle.arena_hash.specs.Contents.{Kind}
use Rattle.arena_hash.specs.Policy.{growth_for, slot_size, table_align}
use Rattle.arena_hash.specs.declared.map.HashMap.{HashMap}

-- what a list asks for to append a value: nothing, or if it is full, the next block of a vector
abbrev pub list_ask : {T : Type 0} → Ghosts T → Vec T → Ask Block
list_ask item v = room_ask item.SIZE item.ALIGN (solid v.raw.block) (amortised_growth item.SIZE v.raw.cap (v.raw.len + 1))

-- what a map asks for to insert a key that is there, or a new one: nothing, or if the table is full, the next table for
-- a new key
abbrev pub map_ask : {K V S : Type 0} → Kind K V S → Bool → HashMap K V S → Ask Block
map_ask k is_there m =
    table_ask (slot_size k.keys.SIZE k.values.SIZE) (table_align k.keys.ALIGN k.values.ALIGN) (growth_for is_there m.table.slots m.len)

-- The list has what it asks for to append a value.
abbrev pub TakesList : {T : Type 0} → Ghosts T → View → View → Vec T → Vec T → Type 0
TakesList item old new v w = TakesBlock (list_ask item v) (solid v.raw.block) old new (solid w.raw.block)

-- A list, and then a map, have what they ask for to get one more entry.
pub record TakesBoth {K V S T : Type 0} (item : Ghosts T) (k : Kind K V S) (is_there : Bool) (old new : View) (v w : Vec T)
    (m n : HashMap K V S) : Type 0 where
  pub mid : View
  pub list : TakesList item old mid v w
  pub map : TakesBlock (map_ask k is_there m) (solid m.table.block) mid new (solid n.table.block)

-- The arena doesn't place what the list asks for; or it does, and doesn't place what the map asks for next.
abbrev pub IsBothDenied : {K V S T : Type 0} → Ghosts T → Kind K V S → Bool → View → View → Vec T → Vec T → HashMap K V S → Answer → Type 0
IsBothDenied item k is_there old new v w m answer = Asked (list_ask item v) old new answer
    ⊎ ((mid : View) × TakesList item old mid v w × Asked (map_ask k is_there m) mid new answer)
