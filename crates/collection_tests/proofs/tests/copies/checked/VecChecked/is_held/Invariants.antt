use Rattle.std.proofs.Common.{take}
use Rattle.std.specs.List.{AllByRecursion}
use Rattle.arena_vec.specs.Vecs.{vec_list}
use Rattle.collection_tests.proofs.tests.copies.checked.VecChecked.is_held.Given as goal

abbrev pub invariant-loop-i : goal.invariant-loop-i
invariant-loop-i g l = AllByRecursion (g.T.CloneIn.kind.is_held l.a.memory) (take l.i (vec_list g.T.Item l.a.memory l.self))
