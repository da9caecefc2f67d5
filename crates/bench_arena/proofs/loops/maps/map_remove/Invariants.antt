use Rattle.arena_hash.specs.Contents.{kind, whole_key}
use Rattle.arena_hash.specs.Maps.{IsMapIn}
use Rattle.hash_ring.specs.contracts.hasher.FxHasherKeyHasher.TheImpl as hasher
use Rattle.arena_items.specs.contracts.numbers.unsigned.U32Item.TheImpl as item
use Rattle.bench_arena.proofs.loops.maps.map_remove.Given as goal

abbrev pub invariant-loop-i : goal.invariant-loop-i
invariant-loop-i l = IsMapIn (kind item.ghosts (whole_key item.ghosts) item.ghosts hasher.ghosts.hash_of) l.a.memory l.map
