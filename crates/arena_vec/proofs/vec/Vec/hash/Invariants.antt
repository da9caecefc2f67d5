use Rattle.std.proofs.Common.{◌≡◌, take, fold}
use Rattle.std.specs.List.{flat_map}
use Rattle.arena_vec.specs.Vecs.{vec_list}
use Rattle.arena_vec.proofs.vec.Vec.hash.Given as goal

abbrev pub invariant-loop-i : goal.invariant-loop-i
invariant-loop-i g l = l.state
    ≡ fold g.H.Hasher.write l.initial.state (flat_map g.T.Hash.hash_input (take l.i (vec_list g.T.Item l.a.memory l.self)))
