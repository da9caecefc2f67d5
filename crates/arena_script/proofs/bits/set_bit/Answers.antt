use Rattle.std.proofs.Common.{refl}
use Rattle.arena_script.proofs.BitActs.{set_gives}
use Rattle.arena_script.proofs.ThingLemmas.{holds}
use Rattle.arena_script.proofs.bits.set_bit.Goals as goal

pub returns : goal.returns
returns g c = rw c.set_bit.ensures.handle
    (set_gives (holds c.requires c.args.name c.in-Ok.ensures) c.args.bit (c.if-not-has_word.ensures.within refl) c.set_bit.ensures.becomes)
