use Rattle.std.proofs.Common.{arith}
use Rattle.arena_script.proofs.ThingLemmas.{holds}
use Rattle.arena_script.proofs.CostFacts.{not_given}
use Rattle.arena_script.proofs.MapCopies.{map_ready, map_copy_gives, map_copy_gives_nothing}
use Rattle.arena_script.proofs.maps.copied.Goals as goal

pub clone_within-requires-clause-small : goal.clone_within-requires-clause-small
clone_within-requires-clause-small g c = (omega arith, omega arith, tt, tt)

pub clone_within-requires-clause-held : goal.clone_within-requires-clause-held
clone_within-requires-clause-held g c =
    map_ready c.args.a.now.memory c.args.map c.requires.held

pub returns-in_err-copy : goal.returns-in_err-copy
returns-in_err-copy g c = λ things name are found none. not_given c.from_residual.result c.from_residual.ensures.1
    (map_copy_gives_nothing _ _ _ (holds are name found) none c.known.ensures.state
    c.bytes_law.ensures.table c.lengths_law.ensures c.in_err-copy.ensures)

pub returns : goal.returns
returns g c = λ things name are found none. map_copy_gives _ _ _ (holds are name found) none c.known.ensures.state
    c.bytes_law.ensures.table c.lengths_law.ensures c.in_ok-copy.ensures
