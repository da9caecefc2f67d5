use Rattle.std.proofs.Common.{[], ◌∷◌}
use Rattle.surface_tests.proofs.facade.push_beside.Goals as goal

pub returns-clause-other : goal.returns-clause-other
returns-clause-other g c =
    (c.frame_law.ensures _ _ (c.args.vec.now.raw.block ∷ []) (c.push.new.self.raw.block ∷ []) c.args.other c.push.ensures.frame
    c.requires.other
    ((c.requires.apart, tt), tt)).means
