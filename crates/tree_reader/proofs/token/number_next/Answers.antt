use Rattle.std.proofs.Common.{sym, subst}
use Rattle.tree_rules.specs.Tokens.{Front}
use Rattle.tree_reader.specs.Seen.{IsFront}
use Rattle.tree_reader.proofs.ByteLemmas.{digits_at, front_next, front_some}
use Rattle.tree_reader.proofs.token.number_next.Goals as goal

pub returns-clause-next : goal.returns-clause-next
returns-clause-next c =
    let src = c.args.src.now in
    let here = c.args.here in
    let begin = c.requires.begin in
    let number = c.number_at.ensures in
    let front = subst (λ (f : Front). IsFront src here f c.number_at.result)
    (sym (digits_at src here begin.within c.requires.digit)) number.front in
    front_next src c.args.at here c.number_at.result begin front (front_some src here begin.within) number.within
