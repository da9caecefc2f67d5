use Rattle.std.proofs.Common.{refl, inl, [], ◌∷◌}
use Rattle.std.proofs.lemmas.Result.{err_from_is_err_and}
use Rattle.example_blocks.proofs.AnswerLemmas.{refused_memory}
use Rattle.example_blocks.proofs.BlockLemmas.{added_readable}
use Rattle.example_blocks.proofs.block_list.add_block.Goals as goal

pub returns-in_err-block-clause-readable : goal.returns-in_err-block-clause-readable
returns-in_err-block-clause-readable g c =
    rw (refused_memory _ _ c.args.layout.size c.args.layout.align _ c.in_err-block.ensures, c.reserve.ensures.items) c.requires.readable

pub returns-in_err-block-clause-err : goal.returns-in_err-block-clause-err
returns-in_err-block-clause-err g c =
    let p = err_from_is_err_and c.from_residual.result c.from_residual.ensures.1 in
    rw (p.1, p.2) (inl c.in_err-block.ensures)

pub returns-clause-readable : goal.returns-clause-readable
returns-clause-readable g c =
    let placed = c.in_ok-block.ensures.1.outcome in
    let all = added_readable _ _ c.args.blocks.now.items c.in_ok-block.block placed.frame c.requires.readable placed.of_layout.readable in
    rw (c.push_reserved.ensures.items, c.reserve.ensures.items) all

pub returns-clause-apart : goal.returns-clause-apart
returns-clause-apart g c =
    let beside = c.placed.ensures.apart _ _ _ _ c.in_ok-block.block c.args.blocks.now.items c.in_ok-block.ensures c.requires.readable in
    let all = c.apart.ensures.all c.in_ok-block.block c.args.blocks.now.items beside in
    rw (c.push_reserved.ensures.items, c.reserve.ensures.items)
    (c.apart.ensures.pairwise c.args.blocks.now.items (c.in_ok-block.block ∷ []) c.requires.apart (tt, tt) all)

pub returns-clause-placed : goal.returns-clause-placed
returns-clause-placed g c =
    (c.in_ok-block.block, c.in_ok-block.ensures, rw (c.push_reserved.ensures.items, c.reserve.ensures.items) refl)
