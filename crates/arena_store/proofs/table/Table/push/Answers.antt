use Rattle.arena_store.proofs.KeptLemmas.{last_base, pushed, pushed_table}
use Rattle.arena_store.proofs.table.Table.push.Goals as goal

pub push-requires-clause-above : goal.push-requires-clause-above
push-requires-clause-above c = last_base _ _ _ _ c.self.invariant c.self.view_is c.args.chunk.base c.requires.above

pub returns : goal.returns
returns c =
    rw (c.push.ensures, c.push_reserved.ensures.items)
    (pushed _ _ _ _ c.self.invariant c.self.view_is c.args.chunk _ c.requires.ordered c.used-used.ensures)

pub invariant_of-self : goal.invariant_of-self
invariant_of-self c = rw (c.push.ensures, c.push_reserved.ensures.items)
    (pushed_table _ _ _ _ c.self.invariant c.self.view_is c.args.chunk _ c.requires.ordered c.used-used.ensures)
