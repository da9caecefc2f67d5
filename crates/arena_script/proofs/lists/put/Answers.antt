use Rattle.std.proofs.Common.{arith}
use Rattle.arena_script.proofs.ListActs.{put_gives}
use Rattle.arena_script.proofs.ThingLemmas.{holds}
use Rattle.arena_script.proofs.lists.put.Goals as goal

pub returns : goal.returns
returns g c =
    put_gives (holds c.requires c.args.name c.in-Ok.ensures) c.args.at c.args.value (omega (arith, c.len.ensures)) c.set.ensures.becomes
