use Rattle.std.proofs.Common.{◌<◌, arith}
use Rattle.arena_table.specs.Tables.{IsShape}
use Rattle.arena_table.proofs.EditedLemmas.{place-within, in-put}
use Rattle.arena_table.proofs.HandleLemmas.{handle-shape, given-whole}
use Rattle.arena_table.proofs.table.Table.put.Goals as goal

pub write_with-requires-clause-suits : goal.write_with-requires-clause-suits
write_with-requires-clause-suits g c =
    let some : 0 < c.args.self.slots = omega (arith, c.requires.free) in
    let m = c.args.a.now.memory in (
      given-whole m c.args.self.block (IsShape g.K.Item g.V.Item c.args.self.slots)
          (handle-shape _ _ _ _ c.requires.keys_small c.requires.values_small c.requires.held.handle some),
      place-within _ _ m _ _ c.requires.held c.args.hash _ _ some c.place_for.ensures.1,
    )

pub returns-clause-held : goal.returns-clause-held
returns-clause-held g c =
    (in-put _ _ _ _ _ c.requires.held _ _ _ (c.args.key, c.args.value) c.requires.free c.requires.text c.requires.hash c.place_for.ensures
    c.write_with.ensures.edits).0

pub returns-clause-settled : goal.returns-clause-settled
returns-clause-settled g c =
    (in-put _ _ _ _ _ c.requires.held _ _ _ (c.args.key, c.args.value) c.requires.free c.requires.text c.requires.hash c.place_for.ensures
    c.write_with.ensures.edits).1
