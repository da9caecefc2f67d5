use Rattle.std.proofs.Common.{◌≡◌, ◌*◌, ap, ◌∙◌}
use Rattle.std.proofs.lemmas.Result.{err_from_is_err_and}
use Rattle.arena_items.specs.Layout.IsAlign.{eight}
use Rattle.arena_bits.specs.Bits.{words_for}
use Rattle.arena_clone.proofs.LayoutLemmas.{readable_layout}
use Rattle.arena_kinds.proofs.Layers.{one_refused}
use Rattle.arena_clone.proofs.sets.BitSetCloneIn.copy_of.Goals as goal

pub place_copy-requires-clause-fits : goal.place_copy-requires-clause-fits
place_copy-requires-clause-fits g c =
    readable_layout _ c.args.self.now.words.block 8 c.known.ensures.valid eight (rw c.arena.ensures c.requires.held.place.readable)

pub returns-in_err-block : goal.returns-in_err-block
returns-in_err-block g c =
    let p = err_from_is_err_and c.from_residual.result c.from_residual.ensures.1 in
    let size : c.args.self.now.words.block.size ≡ words_for c.args.self.now.capacity * 8 =
    c.requires.held.place.of_size ∙ ap (λ n. n * 8) c.requires.held.count in
    rw (p.1, p.2, ← size) (one_refused (λ b. b) c.in_err-block.ensures.placed)
