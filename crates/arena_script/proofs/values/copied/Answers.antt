use Rattle.std.proofs.Common.{refl}
use Rattle.arena_script.proofs.ThingLemmas.{holds}
use Rattle.arena_script.proofs.CopyActs.{copy_given, copy_asks}
use Rattle.arena_script.proofs.CostFacts.{not_given}
use Rattle.arena_script.proofs.ValueActs.{made_gives, made_gives_nothing}
use Rattle.arena_script.proofs.values.copied.Goals as goal

pub returns-in_err-copy : goal.returns-in_err-copy
returns-in_err-copy g c = λ things name are found none.
    let h = holds are name found in
    not_given c.from_residual.result c.from_residual.ensures.1
    (made_gives_nothing refl none c.known.ensures.state
    (rw c.get-content.ensures (copy_given h c.args.other none)) (copy_asks h c.args.other) c.in_err-copy.ensures)

pub returns : goal.returns
returns g c = λ things name are found none. made_gives refl none c.known.ensures.state
    (rw c.get-content.ensures (copy_given (holds are name found) c.args.other none))
    (copy_asks (holds are name found) c.args.other) c.in_ok-copy.ensures
