use Rattle.std.proofs.Common.{arith}
use Rattle.arena_bits.proofs.JoinLemmas.{joins_more}
use Rattle.arena_bits.proofs.edits.JoinRowEdit.edit.Goals as goal

pub words-preserved : goal.words-preserved
words-preserved g c =
    joins_more g.row.N c.args.place.now c.words.place _ _ _ (omega arith) c.words.invariant c.edit.ensures
