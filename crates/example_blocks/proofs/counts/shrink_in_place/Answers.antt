use Rattle.example_blocks.proofs.counts.shrink_in_place.Goals as goal

pub returns-clause-used : goal.returns-clause-used
returns-clause-used g c q =
    c.used_by_resizing.ensures.shrunk _ _ c.args.block c.in-Ok.shrunk c.args.layout.size c.args.layout.align q c.requires.readable
    c.in-Ok.ensures.shrunk
