use Rattle.std.proofs.lemmas.Bool.Decides.{nat_tests}
use Rattle.std.proofs.Common.{◌<◌, Some, arith}
use Rattle.std.proofs.lemmas.Option.{slice_get_within}
use Rattle.arena_table.specs.Tables.{slots_in}
use Rattle.arena_table.proofs.ChangedLemmas.{changed-slots, changed-table}
use Rattle.arena_table.proofs.HandleLemmas.{handle-shape, given-whole}
use Rattle.arena_hash.proofs.map.HashMap.replace.Goals as goal

pub write_with-requires-clause-suits : goal.write_with-requires-clause-suits
write_with-requires-clause-suits g c = grind (arith, nat_tests, slice_get_within, given-whole, handle-shape)

pub returns-clause-held : goal.returns-clause-held
returns-clause-held g c =
    let m = c.args.a.now.memory in
    let t = c.args.self.now.table in
    let taken = c.requires.taken in
    let some : 0 < t.slots =
    omega (arith, slice_get_within (slots_in g.K.Item g.V.Item m t) c.args.at (Some taken.0) taken.1, c.requires.held.table.ordered.long) in
    changed-table _ _ _ _ _ c.requires.keys_small c.requires.values_small c.requires.held some c.args.at c.args.value taken.0 taken.1
    c.write_with.ensures.edits

pub returns-clause-replaced : goal.returns-clause-replaced
returns-clause-replaced g c = λ x there.
    let m = c.args.a.now.memory in
    let t = c.args.self.now.table in
    let some : 0 < t.slots =
    omega (arith, slice_get_within (slots_in g.K.Item g.V.Item m t) c.args.at (Some x) there, c.requires.held.table.ordered.long) in (
      c.value-old.ensures x there,
      changed-slots _ _ _ _ _ c.requires.keys_small c.requires.values_small c.requires.held some c.args.at c.args.value x there
          c.write_with.ensures.edits,
    )
