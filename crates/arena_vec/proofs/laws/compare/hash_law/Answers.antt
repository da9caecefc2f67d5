use Rattle.std.specs.Hash.{items_Alike}
use Rattle.arena_vec.proofs.laws.compare.hash_law.Goals as goal

pub returns : goal.returns
returns g c = (items_Alike (record { fed = g.met.T.Hash.respects_eq })).fed
