use Rattle.std.proofs.Common.{refl, true}
use Rattle.arena_hash.proofs.SetLemmas.{same-sets}
use Rattle.arena_hash.proofs.set.HashSet.eq.Goals as goal

pub returns : goal.returns
returns g c = same-sets (λ x y. true) (λ x y. refl) _ _ _ c.eq.ensures
