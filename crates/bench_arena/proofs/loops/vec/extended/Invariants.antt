use Rattle.arena_items.specs.contracts.numbers.unsigned.U32Item.TheImpl.{ghosts}
use Rattle.arena_vec.specs.Vecs.{IsVecIn}
use Rattle.bench_arena.proofs.loops.vec.extended.Given as goal

abbrev pub invariant-loop : goal.invariant-loop
invariant-loop l = IsVecIn ghosts l.a.memory l.vec
