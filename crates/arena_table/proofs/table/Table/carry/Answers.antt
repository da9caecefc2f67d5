use Rattle.std.proofs.lemmas.Bool.Decides.{nat_tests}
use Rattle.std.proofs.Common.{inr, sym, subst, arith, IsTrue}
use Rattle.std.proofs.lemmas.Option.{MatchOption-at_some}
use Rattle.arena_chunks.specs.Memory.{is_readable}
use Rattle.arena_items.specs.Values.{bytes_of}
use Rattle.arena_table.specs.Tables.{IsTextBeside}
use Rattle.arena_table.proofs.HandleLemmas.{handle-shape}
use Rattle.arena_table.proofs.WalkLemmas.{walk-goes}
use Rattle.arena_table.proofs.table.Table.carry.Goals as goal

pub content-requires : goal.content-requires
content-requires g c =
    let m = c.args.a.now.memory in
    let goes = MatchOption-at_some _ _ c.in-Some.i c.in-Some.is c.step-slot.ensures.goes in
    let shape = handle-shape _ _ _ _ c.requires.keys_small c.requires.values_small c.requires.from.handle (omega (arith, goes.less)) in
    let x = walk-goes g.K.Item g.V.Item _ (bytes_of m c.args.from.block) (inr shape) _ _ _ (rw c.read-bytes.ensures at goes) in
    let key = (rw c.read-bytes.ensures at c.key_at-key.ensures) x.0 x.1 in
    subst (λ w. IsTrue (is_readable m.state (g.K.ArenaKey.key.text w))) (sym key) (c.requires.from.texts x.0 (c.in-Some.i, x.1)).readable

pub settle-requires-clause-text : goal.settle-requires-clause-text
settle-requires-clause-text g c =
    let m = c.args.a.now.memory in
    let goes = MatchOption-at_some _ _ c.in-Some.i c.in-Some.is c.step-slot.ensures.goes in
    let shape = handle-shape _ _ _ _ c.requires.keys_small c.requires.values_small c.requires.from.handle (omega (arith, goes.less)) in
    let x = walk-goes g.K.Item g.V.Item _ (bytes_of m c.args.from.block) (inr shape) _ _ _ (rw c.read-bytes.ensures at goes) in
    let key = (rw c.read-bytes.ensures at c.key_at-key.ensures) x.0 x.1 in
    subst (λ w. IsTextBeside g.K.ArenaKey.key m c.args.self.block w) (sym key) (c.requires.from.texts x.0 (c.in-Some.i, x.1))

pub returns-clause-carries : goal.returns-clause-carries
returns-clause-carries g c = grind (arith, nat_tests)
