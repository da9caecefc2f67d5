use Rattle.arena_items.proofs.CostLemmas.{costs_nothing, costs_weaken, costs_ok, costs_then}
use Rattle.arena_items.proofs.laws.costs.costs_law.Goals as goal

pub returns : goal.returns
returns g c = record { nothing = costs_nothing; weaken = costs_weaken; ok = costs_ok; then = costs_then }
