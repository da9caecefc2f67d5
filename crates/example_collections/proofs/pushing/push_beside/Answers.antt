use Rattle.example_collections.proofs.pushing.push_beside.Goals as goal

pub returns-clause-other : goal.returns-clause-other
returns-clause-other g c =
    (c.frame_law.ensures _ _ _ _ c.args.other c.push.ensures.frame c.requires.other ((c.requires.apart, tt), tt)).means
