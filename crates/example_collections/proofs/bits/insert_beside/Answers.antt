use Rattle.example_collections.proofs.bits.insert_beside.Goals as goal

pub returns-clause-other : goal.returns-clause-other
returns-clause-other g c =
    (c.frame_law.ensures _ _ _ _ c.args.other c.set_bit.ensures.becomes.frame c.requires.other ((c.requires.apart, tt), tt)).means
