use Rattle.std.proofs.lemmas.Bool.Decides.{nat_tests}
use Rattle.std.proofs.Common.{arith}
use Rattle.std.proofs.lemmas.Result.{err_from_is_err_and}
use Rattle.arena_clone.proofs.PairLemmas.{first_refused, second_refused, both_copied}
use Rattle.arena_clone.proofs.OriginLemmas.{placed_held, placed_copied}
use Rattle.arena_clone.proofs.maps.clone_pair.Goals as goal

pub returns-in_err-key : goal.returns-in_err-key
returns-in_err-key g c = grind (arith, nat_tests, err_from_is_err_and, first_refused)

pub copy_of-requires-2-clause-held : goal.copy_of-requires-2-clause-held
copy_of-requires-2-clause-held g c =
    placed_held (g.met.O.Origin.is_origin c.args.from.now) c.in_ok-key.ensures.placed.frame g.met.V.CloneIn.lawful c.args.pair.now.1
    c.requires.held.1

pub returns-in_err-value : goal.returns-in_err-value
returns-in_err-value g c =
    let p = err_from_is_err_and c.from_residual-in_err-value.result c.from_residual-in_err-value.ensures.1 in
    rw (p.1, p.2) (second_refused g.V.CloneIn.kind g.met.K.CloneIn.lawful c.args.ids
    (g.O.Origin.there c.args.from.now c.args.to.now.memory) c.args.pair.now c.in_ok-key.ensures
    (placed_copied (g.met.O.Origin.is_origin c.args.from.now) c.in_ok-key.ensures.placed.frame g.met.V.CloneIn.lawful c.args.pair.now.1
    c.requires.held.1 c.in_err-value.ensures))

pub returns : goal.returns
returns g c =
    both_copied g.V.CloneIn.kind g.met.K.CloneIn.lawful c.args.ids (g.O.Origin.there c.args.from.now c.args.to.now.memory) c.args.pair.now
    c.in_ok-key.ensures
    (placed_copied (g.met.O.Origin.is_origin c.args.from.now) c.in_ok-key.ensures.placed.frame g.met.V.CloneIn.lawful c.args.pair.now.1
    c.requires.held.1 c.in_ok-value.ensures)
