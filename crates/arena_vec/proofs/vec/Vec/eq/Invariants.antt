use Rattle.std.specs.Cmp.Lexicographic.{pointwise}
use Rattle.std.proofs.cmp.SliceLoops.{Rest}
use Rattle.arena_vec.specs.Vecs.{vec_list}
use Rattle.arena_vec.proofs.vec.Vec.eq.Given as goal

abbrev pub invariant-loop-i : goal.invariant-loop-i
invariant-loop-i g l = Rest (pointwise g.T.PartialEq.eq) (vec_list g.T.Item l.a.memory l.self) (vec_list g.T.Item l.a.memory l.other) l.i
