use Rattle.example_blocks.proofs.linked.set_last_beside.Goals as goal

pub returns-clause-held : goal.returns-clause-held
returns-clause-held g c = (c.frame_law.ensures _ _ _ _ c.args.other c.set_last.ensures.frame c.requires.other c.requires.apart).held

pub returns-clause-other : goal.returns-clause-other
returns-clause-other g c = (c.frame_law.ensures _ _ _ _ c.args.other c.set_last.ensures.frame c.requires.other c.requires.apart).means
