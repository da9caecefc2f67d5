use Rattle.tree_reader.proofs.ByteLemmas.{first_word}
use Rattle.tree_reader.proofs.token.word_end.Goals as goal

pub returns : goal.returns
returns c =
    let h = c.requires in
    let first = first_word c.args.src.now c.args.at c.args.here c.name_end.result h.begin h.digit h.name c.name_end.ensures.value in
    record { tokens = first.0; some = first.1; within = c.name_end.ensures.within }
