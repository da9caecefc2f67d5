use Rattle.arena_items.proofs.ElementLemmas.{copied_values}
use Rattle.arena_items.proofs.rows.copy_items.Goals as goal

pub returns-clause-push : goal.returns-clause-push
returns-clause-push g c =
    copied_values g.T.Item.SIZE g.T.Item.decoded _ _ c.args.target c.args.to c.args.source c.args.from c.args.n
    (rw c.SIZE-size.ensures at c.copy_between.ensures.writes) c.requires.source_range c.requires.target_range
