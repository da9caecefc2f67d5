use Rattle.std.proofs.Common.{refl, ap}
use Rattle.arena_store.specs.Chunks.{Chunks}
use Rattle.arena_store.proofs.LookupLemmas.{has_below_in, found_bytes, found_part, found_with, found_table}
use Rattle.arena_store.proofs.table.Table.bytes_mut.Goals as goal

pub last_below-i-requires : goal.last_below-i-requires
last_below-i-requires c = has_below_in _ _ _ _ c.self.invariant c.self.view_is c.args.addr c.args.n c.requires

pub part_mut-requires-clause-ready : goal.part_mut-requires-clause-ready
part_mut-requires-clause-ready c = (found_bytes _ _ _ _ c.self.invariant c.self.view_is _ _ _ c.last_below-i.ensures.last c.last_below-i.ensures.offset c.args.n c.requires).ready _ c.index_mut.ensures.value

pub part_mut-requires-clause-range : goal.part_mut-requires-clause-range
part_mut-requires-clause-range c = (found_bytes _ _ _ _ c.self.invariant c.self.view_is _ _ _ c.last_below-i.ensures.last c.last_below-i.ensures.offset c.args.n c.requires).range _ c.index_mut.ensures.value

pub invariant_of-self-lent : goal.invariant_of-self-lent
invariant_of-self-lent c = λ w. found_table _ _ _ _ c.self.invariant c.self.view_is _ _ _ c.last_below-i.ensures.last c.last_below-i.ensures.offset c.args.n c.requires _ w c.index_mut.ensures.value

pub returns : goal.returns
returns c = (
  (
    refl,
    λ w i. record {
      items = found_with _ _ _ _ c.self.invariant c.self.view_is _ _ _ c.last_below-i.ensures.last c.last_below-i.ensures.offset c.args.n c.requires _ w c.index_mut.ensures.value i;
      spare = ap (λ (t : Chunks). t.spare) c.self.view_is i;
    },
  ),
  record { writes_back = tt; value = found_part _ _ _ _ c.self.invariant c.self.view_is _ _ _ c.last_below-i.ensures.last c.last_below-i.ensures.offset c.args.n c.requires _ _ c.index_mut.ensures.value c.part_mut.ensures.value },
)
