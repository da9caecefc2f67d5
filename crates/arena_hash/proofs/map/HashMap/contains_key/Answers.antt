use Rattle.std.proofs.Common.{ap, ◌∙◌, arith}
use Rattle.std.specs.Prelude.{◌≡◌, is_some, Option}
use Rattle.hash_ring.specs.Finite.{value_of}
use Rattle.arena_hash.proofs.map.HashMap.contains_key.Goals as goal

some_value : {K V : Type 0} (found : Option (K × V)) → is_some (value_of found) ≡ is_some found
some_value found = grind arith

pub returns : goal.returns
returns g c = c.is_some.ensures ∙ ap is_some c.get.ensures ∙ some_value _
