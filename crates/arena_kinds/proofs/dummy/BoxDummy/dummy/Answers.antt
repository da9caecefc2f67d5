use Rattle.std.proofs.Common.{[], ◌∷◌}
use Rattle.std.proofs.lemmas.Result.{err_from_is_err_and}
use Rattle.arena_kinds.specs.Asks.Ask.{Room}
use Rattle.arena_kinds.proofs.MadeLemmas.{makes_refused}
use Rattle.arena_kinds.proofs.BoxLemmas.{makes_box}
use Rattle.arena_kinds.proofs.dummy.BoxDummy.dummy.Goals as goal

pub returns-in_err-value : goal.returns-in_err-value
returns-in_err-value g c =
    let p = err_from_is_err_and c.from_residual.result c.from_residual.ensures.1 in
    rw (p.1, p.2) (makes_refused (Room g.T.Item.SIZE g.T.Item.ALIGN ∷ []) c.in_err-value.ensures)

pub returns : goal.returns
returns g c = makes_box g.met.T.Dummy.lawful c.in_ok-value.ensures c.place_box.result c.place_box.ensures
