use Rattle.std.proofs.Common.{◌≡◌, ◌-◌, ◌*◌, ◌^◌, [], ◌∷◌, take, Ok}
use Rattle.arena_chunks.specs.Frame.{Frame}
use Rattle.arena_hash.specs.Accounts.{credit_of}
use Rattle.arena_hash.specs.Contents.{kind, whole_key}
use Rattle.arena_hash.specs.Finite.{with_all}
use Rattle.arena_hash.specs.Maps.{IsMapIn, map_in}
use Rattle.hash_ring.specs.contracts.hasher.FxHasherKeyHasher.TheImpl as hasher
use Rattle.arena_items.specs.Costs.{Costs, farthest}
use Rattle.arena_items.specs.contracts.numbers.unsigned.U32Item.TheImpl as number
use Rattle.arena_items.specs.contracts.numbers.unsigned.U64Item.TheImpl as item
use Rattle.example_collections.proofs.filling.put_all.Given as goal

abbrev pub invariant-pairs : goal.invariant-pairs
invariant-pairs g l = let k = kind item.ghosts (whole_key item.ghosts) number.ghosts hasher.ghosts.hash_of in record {
  held : IsMapIn k l.a.memory l.map;
  map_is : map_in k l.a.memory l.map ≡ with_all item.ghosts.encoded (map_in k l.fn.a.memory l.fn.map) (take l.i l.pairs);
  frame : Frame l.fn.a.memory l.a.memory (l.fn.map.table.block ∷ []) (l.map.table.block ∷ []);
  costs : l.fn.a.memory.state.min_align ≡ 1
      → Costs {X = Unit {0}} (farthest - 2 ^ 61) (320 * l.i) (credit_of k l.fn.map) (credit_of k l.map) l.fn.a l.a (Ok tt);
}
