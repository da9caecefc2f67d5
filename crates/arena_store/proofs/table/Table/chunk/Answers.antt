use Rattle.std.proofs.Common.{arith}
use Rattle.arena_store.proofs.KeptLemmas.{items_length, is_row}
use Rattle.arena_store.proofs.table.Table.chunk.Goals as goal

pub base-requires : goal.base-requires
base-requires c = omega (arith, c.self.invariant.pairs, items_length _ _ _ _ c.self.invariant c.self.view_is, c.requires.index)

pub index-requires : goal.index-requires
index-requires c = omega (arith, c.self.inside.kept.ok.0, items_length _ _ _ _ c.self.invariant c.self.view_is, c.requires.index)

pub returns : goal.returns
returns c =
    let row = is_row _ _ _ _ c.self.invariant c.self.view_is c.args.i _ _ c.requires.ordered c.requires.index c.base.ensures c.index.ensures in
    record { chunk = row.chunk; used = row.used; ordered = row.ordered }
