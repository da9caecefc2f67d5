use Rattle.example_blocks.proofs.ChainLemmas.{set}
use Rattle.example_blocks.proofs.linked.Chain.set_last.Goals as goal

pub returns : goal.returns
returns g c =
    let is = rw c.third.ensures at c.set.ensures in
    let all = set _ _ _ _ _ c.args.self c.args.z c.requires.held is.writes.frame is.value is.held in
    record { held = all.0; numbers = all.1; blocks = all.2; frame = is.writes.frame }
