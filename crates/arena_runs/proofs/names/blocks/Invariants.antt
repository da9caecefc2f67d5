use Rattle.std.proofs.Common.{◌≡◌, ℕ, ◌++◌, drop, map}
use Rattle.arena_rules.specs.declared.place.Place.{Place}
use Rattle.arena_store.specs.Memory.{block_at}
use Rattle.arena_runs.proofs.names.blocks.Given as goal

abbrev pub invariant-loop-name : goal.invariant-loop-name
invariant-loop-name l =
    l.blocks.items ++ map (λ (e : ℕ × Place). (e.0, block_at l.generation e.1)) (drop l.name-index l.name-items)
    ≡ map (λ (e : ℕ × Place). (e.0, block_at l.generation e.1)) l.name-items
