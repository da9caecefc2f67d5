use Rattle.std.proofs.Common.{ap}
use Rattle.arena_rules.specs.State.{State, used_bytes}
use Rattle.example_collections.proofs.texts.push_char_below.Goals as goal

pub returns : goal.returns
returns g c =
    let below = c.within_room.ensures.ok _ _ _ _ _ _ _ c.requires.room c.push.ensures in
    record { grows = c.push.ensures; ok = below.0; places = below.1; used = ap (λ (s : State). used_bytes s) below.1.state }
