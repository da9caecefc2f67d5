use Rattle.example_blocks.proofs.counts.give_back.Goals as goal

pub returns-clause-frame : goal.returns-clause-frame
returns-clause-frame g c = c.given_back.ensures.plain _ _ c.args.block c.dealloc.ensures.given c.known.ensures.state

pub returns-clause-bytes : goal.returns-clause-bytes
returns-clause-bytes g c p = c.given_back.ensures.bytes _ _ c.args.block p c.dealloc.ensures.given

pub returns-clause-used : goal.returns-clause-used
returns-clause-used g c at = c.used_by_giving_back.ensures.plain _ _ c.args.block c.requires c.dealloc.ensures.given at
    c.known.ensures.state

pub returns-clause-doubling : goal.returns-clause-doubling
returns-clause-doubling g c z = c.doubling.ensures.given_back z _ _ c.args.block c.dealloc.ensures.given
