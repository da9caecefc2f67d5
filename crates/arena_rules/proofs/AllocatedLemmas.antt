-- The number of bytes of the chunks of an arena that doesn't grow never changes.
use Rattle.std.proofs.lemmas.Bool.Decides.{nat_tests}
use Rattle.arena_rules.specs.Search.{asked}
use Rattle.std.proofs.Common.{arith, ◌≡◌, ℕ, Some, false}
use Rattle.arena_rules.specs.State.{State, allocated_bytes}
use Rattle.arena_rules.specs.Moves.{Outcome, alloc}

-- An allocation adds no chunk where the arena doesn't grow.
pub alloc_allocated : (state : State) (size align k : ℕ) (outcome : Outcome) → state.is_growing ≡ false
    → alloc state size align k ≡ Some outcome
    → allocated_bytes outcome.state ≡ allocated_bytes state
unfolding alloc asked
alloc_allocated state size align k outcome still step = grind (arith, nat_tests)
