use Rattle.arena_store.proofs.LookupLemmas.{has_below_in, found_bytes, found_part}
use Rattle.arena_store.proofs.table.Table.bytes.Goals as goal

pub last_below-i-requires : goal.last_below-i-requires
last_below-i-requires c = has_below_in _ _ _ _ c.self.invariant c.self.view_is c.args.addr c.args.n c.requires

pub part-requires-clause-ready : goal.part-requires-clause-ready
part-requires-clause-ready c = (found_bytes _ _ _ _ c.self.invariant c.self.view_is _ _ _ c.last_below-i.ensures.last c.last_below-i.ensures.offset c.args.n c.requires).ready _ c.index.ensures

pub part-requires-clause-range : goal.part-requires-clause-range
part-requires-clause-range c = (found_bytes _ _ _ _ c.self.invariant c.self.view_is _ _ _ c.last_below-i.ensures.last c.last_below-i.ensures.offset c.args.n c.requires).range _ c.index.ensures

pub returns : goal.returns
returns c = found_part _ _ _ _ c.self.invariant c.self.view_is _ _ _ c.last_below-i.ensures.last c.last_below-i.ensures.offset c.args.n c.requires _ _ c.index.ensures c.part.ensures
