use Rattle.arena_rules.proofs.ResizeSteps.{shrinks_aligned}
use Rattle.arena_core.proofs.ResizedLemmas.{resized_unasked, shrunk_aligned}
use Rattle.arena_core.proofs.CursorMoveLemmas.{shrunk_still}
use Rattle.arena_core.proofs.arena.Arena.shrink_counted.Goals as goal

pub returns-then-layout-block-clause-shrunk : goal.returns-then-layout-block-clause-shrunk
returns-then-layout-block-clause-shrunk g c =
    let is = c.shrink_here.ensures in
    resized_unasked _ c.args.self.now c.shrink_here.new.self _ c.args.block c.args.layout.size c.args.layout.align c.shrink_here.result
    (shrunk_aligned _ _ c.args.block c.args.layout.size c.args.layout.align c.shrink_here.result is.entry c.args.layout.valid
    is.resizes.of_layout.of_align c.requires.size is.step) is

pub returns-then-is_aligned_to-clause-shrunk : goal.returns-then-is_aligned_to-clause-shrunk
returns-then-is_aligned_to-clause-shrunk g c =
    let is = shrunk_still c.args.self.now c.args.block c.args.layout.size c.args.layout.align c.block_of.ensures.valid c.requires.readable
    c.requires.size
    (shrinks_aligned c.args.self.now.state c.args.block.addr c.args.block.size c.args.block.align c.args.layout.size c.args.layout.align
    c.if-layout-block.false (c.is_aligned_to.ensures.0 c.if-is_aligned_to.true)) in
    rw c.block_of.ensures.block (resized_unasked _ c.args.self.now c.args.self.now _ c.args.block c.args.layout.size c.args.layout.align _
    (shrunk_aligned _ _ c.args.block c.args.layout.size c.args.layout.align _ is.entry c.args.layout.valid is.resizes.of_layout.of_align
    c.requires.size is.step) is)
