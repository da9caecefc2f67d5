use Rattle.std.proofs.Common.{refl, arith}
use Rattle.arena_lint.proofs.LintLemmas.{parse_spends, unparsed, exhausted}
use Rattle.arena_lint.proofs.SpendingLemmas.{spends_nothing}
use Rattle.arena_lint.proofs.lint.without_findings.Goals as goal

pub returns-in-Ok : goal.returns-in-Ok
returns-in-Ok g c = exhausted c.tree_weight.ensures c.requires.unused c.in-Ok.ensures.parses c.in-Ok.ensures.bytes
    (λ trees means. spends_nothing refl)

pub returns-in-Err : goal.returns-in-Err
returns-in-Err g c =
    rw c.unparsed.ensures
    (unparsed c.requires.unused (parse_spends (omega arith) c.in-Err.ensures.bytes) c.in-Err.why c.in-Err.ensures.parses
    c.in-Err.ensures.bytes)
