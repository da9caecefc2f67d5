-- States with nothing in use.
use Rattle.std.proofs.lemmas.Bool.Decides.{nat_tests}
use Rattle.std.proofs.Common.{◌≡◌, arith}
use Rattle.arena_rules.specs.State.{State, IsValid, newest_size, used_bytes, allocated_bytes}
use Rattle.arena_rules.specs.Moves.{reset}
use Rattle.arena_rules.proofs.RoundingLemmas.{min_align_multiple}
use Rattle.arena_rules.proofs.UsedLemmas.{floor_least}

pub reset_valid : (state : State) → IsValid state → IsValid (reset state)
reset_valid state valid = grind (arith, nat_tests, min_align_multiple, floor_least)

-- No byte is in use afterwards.
pub reset_used : (state : State) → used_bytes (reset state) ≡ 0
reset_used state = grind arith

-- Only the newest chunk remains.
pub reset_allocated : (state : State) → allocated_bytes (reset state) ≡ newest_size state.chunks
reset_allocated state = grind arith
