-- What is noted is what is reported.
use Rattle.std.proofs.lemmas.Bool.Decides.{nat_tests}
use Rattle.std.proofs.Common.{arith, ℕ, Option, [], ◌∷◌}
use Rattle.std.specs.Global.{Vec}
use Rattle.arena_rules.specs.Causes.{TellsRequests}
use Rattle.arena_store.specs.Telling.{told, Notes}

pub notes_tell : (old new : Option (Vec (ℕ × ℕ))) (request : ℕ × ℕ) → Notes old new request
    → TellsRequests (told old) (told new) (request ∷ [])
notes_tell old new request notes = grind (arith, nat_tests)
