use Rattle.std.specs.Cmp.Lexicographic.{slice_cmp}
use Rattle.std.proofs.cmp.SliceLoops.{Rest}
use Rattle.arena_vec.specs.Vecs.{vec_list}
use Rattle.arena_vec.proofs.vec.Vec.cmp.Given as goal

abbrev pub invariant-loop-i : goal.invariant-loop-i
invariant-loop-i g l = Rest (slice_cmp g.T.Ord.cmp) (vec_list g.T.Item l.a.memory l.self) (vec_list g.T.Item l.a.memory l.other) l.i
