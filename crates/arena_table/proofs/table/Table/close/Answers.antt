use Rattle.std.proofs.Common.{◌<◌, arith}
use Rattle.arena_table.specs.Edits.{IsNear}
use Rattle.arena_table.specs.Tables.{IsShape}
use Rattle.arena_table.proofs.EditedLemmas.{in-close}
use Rattle.arena_table.proofs.HandleLemmas.{handle-shape, held-within, given-whole}
use Rattle.arena_table.proofs.table.Table.close.Goals as goal

pub write_with-requires-clause-suits : goal.write_with-requires-clause-suits
write_with-requires-clause-suits g c =
    let some : 0 < c.args.self.slots = omega (arith, c.requires.free) in
    let shape = handle-shape _ _ _ _ c.requires.keys_small c.requires.values_small c.requires.held.handle some in
    let m = c.args.a.now.memory in
    let near = rw c.read.ensures at (c.is_near.ensures c.if-not-is_near.false) in (
      given-whole m c.args.self.block (IsShape g.K.Item g.V.Item c.args.self.slots) shape,
      held-within c.requires.held c.args.at c.requires.taken.0 c.requires.taken.1,
      given-whole m c.args.self.block (λ bytes. IsNear c.args.self.slots bytes c.args.at) near,
    )

pub returns-clause-held : goal.returns-clause-held
returns-clause-held g c =
    (in-close _ _ _ _ _ c.requires.held c.args.at c.requires.taken.0 c.requires.free c.requires.taken.1 c.write_with.ensures.edits).0

pub returns-clause-closed : goal.returns-clause-closed
returns-clause-closed g c =
    (in-close _ _ _ _ _ c.requires.held c.args.at c.requires.taken.0 c.requires.free c.requires.taken.1 c.write_with.ensures.edits).1
