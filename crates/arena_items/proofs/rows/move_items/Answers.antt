use Rattle.arena_items.proofs.ElementLemmas.{moved_values}
use Rattle.arena_items.proofs.rows.move_items.Goals as goal

pub returns-clause-values : goal.returns-clause-values
returns-clause-values g c = λ m source target room.
    moved_values g.T.Item.SIZE g.T.Item.decoded _ _ c.args.block c.args.from c.args.to c.args.n m
    (rw c.SIZE-size.ensures at c.move_within.ensures.writes) source target room
