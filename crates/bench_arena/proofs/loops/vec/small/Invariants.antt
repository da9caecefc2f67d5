use Rattle.arena_items.specs.contracts.numbers.unsigned.U32Item.TheImpl.{ghosts}
use Rattle.arena_vec.specs.Vecs.{IsVecIn}
use Rattle.bench_arena.proofs.loops.vec.small.Given as goal

abbrev pub invariant-loop-k : goal.invariant-loop-k
invariant-loop-k l = IsVecIn ghosts l.a.memory l.vec
