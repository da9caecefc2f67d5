use Rattle.tree_reader.proofs.ByteLemmas.{front_next}
use Rattle.tree_reader.proofs.token.any_next.Goals as goal

pub returns : goal.returns
returns c =
    let front = c.front_at.ensures in
    front_next c.args.src.now c.args.at c.args.here c.front_at.result c.requires front.front front.some front.within
