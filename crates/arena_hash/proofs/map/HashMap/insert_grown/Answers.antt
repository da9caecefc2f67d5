use Rattle.std.proofs.lemmas.Bool.Decides.{nat_tests}
use Rattle.std.proofs.Common.{arith, ap, sym, ◌∙◌, refl, None}
use Rattle.std.proofs.lemmas.Result.{err_from_is_err_and}
use Rattle.arena_table.specs.Contents.{kind}
use Rattle.arena_hash.specs.Changes.{is_value}
use Rattle.arena_hash.proofs.CallLemmas.{puts-grown, puts-refused}
use Rattle.arena_hash.proofs.MapLemmas.{map-table, content-stays, text-beside}
use Rattle.arena_hash.proofs.map.HashMap.insert_grown.Goals as goal

pub grown-requires-clause-held : goal.grown-requires-clause-held
grown-requires-clause-held g c = map-table _ _ _ c.requires.held

pub returns-in_err-self : goal.returns-in_err-self
returns-in_err-self g c =
    let grown = c.in_err-self.ensures in
    let e = err_from_is_err_and c.from_residual.result c.from_residual.ensures.1 in
    rw (e.1, e.2)
    (puts-refused _ g.met.K.Item.layout g.met.V.Item.layout c.requires.keys_small c.requires.values_small c.args.a.now _ c.requires.held
    c.args.key c.requires.lacks c.grown.new.a c.args.value is_value _ _ c.requires.full grown.made grown.err)

pub settle-requires-clause-text : goal.settle-requires-clause-text
settle-requires-clause-text g c = grind (arith, nat_tests, text-beside)

pub settle-requires-clause-hash : goal.settle-requires-clause-hash
settle-requires-clause-hash g c =
    let k = kind g.K.Item g.K.ArenaKey.key g.V.Item g.S.KeyHasher.hash_of in
    c.requires.hash
    ∙ ap (λ q. g.S.KeyHasher.hash_of c.args.self.now.hasher q)
    (sym (content-stays k c.args.a.now.memory c.grown.new.a.memory _ _ c.in_ok-self.ensures.frame c.args.key c.requires.text.readable tt))

pub returns : goal.returns
returns g c =
    let grown = c.in_ok-self.ensures in
    puts-grown _ g.met.K.Item.layout g.met.V.Item.layout c.requires.keys_small c.requires.values_small _ _ c.requires.held _
    c.requires.lacks _ _ _ _ _ _ None c.requires.text c.requires.full refl refl refl grown.made grown.slots grown.moved grown.frame
    c.settle.ensures.places c.settle.ensures.frame c.settle.ensures.held c.settle.ensures.settled refl
