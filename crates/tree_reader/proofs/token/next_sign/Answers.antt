use Rattle.tree_reader.proofs.ByteLemmas.{begins_unsigned}
use Rattle.tree_reader.proofs.token.next_sign.Goals as goal

pub returns-in-Other-clause-none : goal.returns-in-Other-clause-none
returns-in-Other-clause-none c =
    begins_unsigned c.args.src.now c.args.at c.in_ok-here.here c.in_ok-here.ensures.some c.in-Other.ensures.seen
