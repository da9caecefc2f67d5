use Rattle.arena_rules.proofs.CreationLemmas.{growing_valid, fixed_valid, created_valid}
use Rattle.arena_rules.proofs.laws.moves.first_states.Goals as goal

pub returns : goal.returns
returns c = record { growing = growing_valid; with_capacity = created_valid; fixed = fixed_valid }
