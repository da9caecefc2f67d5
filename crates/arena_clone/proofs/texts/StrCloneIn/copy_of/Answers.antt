use Rattle.std.proofs.lemmas.Result.{err_from_is_err_and}
use Rattle.arena_items.specs.Layout.IsAlign.{one}
use Rattle.arena_clone.proofs.LayoutLemmas.{readable_layout}
use Rattle.arena_kinds.proofs.Layers.{one_refused}
use Rattle.arena_clone.proofs.texts.StrCloneIn.copy_of.Goals as goal

pub place_copy-requires-clause-fits : goal.place_copy-requires-clause-fits
place_copy-requires-clause-fits g c =
    readable_layout c.arena.result.now.memory.state c.args.self.now.block 1 c.known.ensures.valid one (rw c.arena.ensures c.requires.held)

pub returns-in_err-block : goal.returns-in_err-block
returns-in_err-block g c =
    let p = err_from_is_err_and c.from_residual.result c.from_residual.ensures.1 in
    rw (p.1, p.2) (one_refused (λ b. b) c.in_err-block.ensures.placed)
