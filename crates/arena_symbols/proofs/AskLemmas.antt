-- What a list and a map ask for to get one more entry.
use Rattle.std.proofs.lemmas.Bool.Decides.{nat_tests}
use Rattle.std.proofs.Common.{arith, ◌≡◌, ◌≢◌, ◌+◌, ◌<◌, ◌≤◌, List, Option, Bool, Ok, Err, subst}
use Rattle.std.proofs.Math.Nat.{mul-le-mul_left}
use Rattle.arena_chunks.specs.Source.{View}
use Rattle.arena_items.specs.Asks.{solid, Asked, TakesBlock, refusal}
use Rattle.arena_items.specs.declared.item.Item.{Ghosts}
use Rattle.arena_items.specs.declared.room.AllocError.{AllocError}
use Rattle.arena_items.specs.declared.room.AllocError.TheVariants.{CapacityOverflow}
use Rattle.arena_items.proofs.Layers.{zero_or_more, growth_taken, growth_asked, table_taken, table_asked}
use Rattle.arena_vec.specs.Changes.{Grows}
use Rattle.arena_vec.specs.Growth.{amortised_growth}
use Rattle.arena_vec.specs.Vecs.{IsVecIn}
use Rattle.arena_vec.specs.declared.vec.Vec.{Vec}
use Rattle.arena_hash.specs.Changes.{Puts}
use Rattle.arena_hash.specs.Contents.{Kind, content_in}
use Rattle.arena_hash.specs.Finite.{has}
use Rattle.arena_hash.specs.Maps.{map_in}
use Rattle.arena_hash.specs.Policy.{growth_for, slot_size, table_align}
use Rattle.arena_hash.specs.declared.map.HashMap.{HashMap}
use Rattle.arena_symbols.specs.Asks.{list_ask, map_ask, TakesList}

-- ---- A value appended to a list

module _ {T : Type 0} (item : Ghosts T) (some : 4 ≤ item.SIZE) (old new : View) (v w : Vec T) (list : List T)
    (held : IsVecIn item old.memory v) where
  none_of : v.raw.block.size ≡ 0 → v.raw.cap ≡ 0
  none_of is = omega (arith, mul-le-mul_left v.raw.cap some, held.place.of_size, is)

  some_of : 0 < v.raw.block.size → 0 < v.raw.cap
  some_of is = grind (arith, nat_tests, zero_or_more v.raw.cap, held.place.of_size, is)

  pub list_taken : {X : Type 0} (x : X)
      → Grows {X = X} item old new v (amortised_growth item.SIZE v.raw.cap (v.raw.len + 1)) list w (Ok x) → TakesList item old new v w
  list_taken {X} x grows = growth_taken old new v.raw.block item.SIZE item.ALIGN v.raw.cap (λ (x : X). w.raw.block) none_of some_of
      (amortised_growth item.SIZE v.raw.cap (v.raw.len + 1)) x grows.made

  pub list_asked : {X : Type 0} (e : AllocError) → e ≢ CapacityOverflow
      → Grows {X = X} item old new v (amortised_growth item.SIZE v.raw.cap (v.raw.len + 1)) list w (Err e)
      → Asked (list_ask item v) old new (refusal e)
  list_asked {X} e fits grows = growth_asked old new v.raw.block item.SIZE item.ALIGN v.raw.cap (λ (x : X). w.raw.block) none_of some_of
      (amortised_growth item.SIZE v.raw.cap (v.raw.len + 1)) e fits grows.made

-- ---- A pair in a map, whose key is there or not

module _ {X K V S : Type 0} (k : Kind K V S) (tells : Option V → X → Type 0) (old new : View) (m w : HashMap K V S) (key : K) (value : V)
    (there : Bool) (is : has (map_in k old.memory m) (content_in k.key old.memory key) ≡ there) where
  pub map_taken : (x : X) → Puts k old new m key value tells w (Ok x)
      → TakesBlock (map_ask k there m) (solid m.table.block) old new (solid w.table.block)
  map_taken x puts = subst (λ (b : Bool). TakesBlock (map_ask k b m) (solid m.table.block) old new (solid w.table.block)) is
      (table_taken old new m.table.block (slot_size k.keys.SIZE k.values.SIZE) (table_align k.keys.ALIGN k.values.ALIGN)
      (λ (x : X). w.table.block) (growth_for (has (map_in k old.memory m) (content_in k.key old.memory key)) m.table.slots m.len) x puts.made)

  pub map_asked : (e : AllocError) → e ≢ CapacityOverflow → Puts {X = X} k old new m key value tells w (Err e)
      → Asked (map_ask k there m) old new (refusal e)
  map_asked e fits puts = subst (λ (b : Bool). Asked (map_ask k b m) old new (refusal e)) is
      (table_asked old new m.table.block (slot_size k.keys.SIZE k.values.SIZE) (table_align k.keys.ALIGN k.values.ALIGN)
      (λ (x : X). w.table.block) (growth_for (has (map_in k old.memory m) (content_in k.key old.memory key)) m.table.slots m.len) e fits
      puts.made)
