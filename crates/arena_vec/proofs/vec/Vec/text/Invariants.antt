use Rattle.std.proofs.Common.{◌≡◌, ◌++◌, take, [], codes, string_bytes, IfSome}
use Rattle.std.specs.Fmt.{debug_items}
use Rattle.arena_vec.specs.Vecs.{vec_list}
use Rattle.arena_vec.proofs.vec.Vec.text.Given as goal

abbrev pub invariant-loop-i : goal.invariant-loop-i
invariant-loop-i g l = IfSome (debug_items g.T.Debug.debug_output [] (take l.i (vec_list g.T.Item l.a.memory l.self)))
    (λ bytes. string_bytes l.out ≡ codes "Vec([" ++ bytes)
