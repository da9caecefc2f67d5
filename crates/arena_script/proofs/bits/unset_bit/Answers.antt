use Rattle.std.proofs.Common.{refl}
use Rattle.arena_script.proofs.BitActs.{unset_gives}
use Rattle.arena_script.proofs.ThingLemmas.{holds}
use Rattle.arena_script.proofs.bits.unset_bit.Goals as goal

pub returns : goal.returns
returns g c = rw c.unset_bit.ensures.handle
    (unset_gives (holds c.requires c.args.name c.in-Ok.ensures) c.args.bit (c.if-not-has_word.ensures.within refl) c.unset_bit.ensures.becomes)
