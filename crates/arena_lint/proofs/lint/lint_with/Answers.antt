use Rattle.std.proofs.Common.{arith}
use Rattle.arena_lint.proofs.LintLemmas.{parse_spends, unparsed, checked, unplaced, exhausted, fits}
use Rattle.arena_lint.proofs.lint.lint_with.Goals as goal

pub returns-in-Err-clause-other : goal.returns-in-Err-clause-other
returns-in-Err-clause-other g c =
    rw c.unparsed.ensures
    (unparsed c.requires.unused (parse_spends (omega arith) c.in-Err.ensures.bytes) c.in-Err.why c.in-Err.ensures.parses
    c.in-Err.ensures.bytes)

pub returns-in-Ok-clause-checked : goal.returns-in-Ok-clause-checked
returns-in-Ok-clause-checked g c = let parsed = c.in_default.ensures in
    checked c.tree_weight.ensures c.requires.unused parsed.parses parsed.bytes g.F.TakesFindings.taking parsed.asks
    (λ trees is. c.in-Ok.ensures.gains trees is) (λ trees is. c.in-Ok.ensures.spends trees is)
    (λ trees is. c.in-Ok.ensures.asks trees is)

pub returns-in-Err-AllocErr-clause-other : goal.returns-in-Err-AllocErr-clause-other
returns-in-Err-AllocErr-clause-other g c = let parsed = c.in_default.ensures in
    rw c.no_place.ensures (unplaced c.tree_weight.ensures c.requires.unused parsed.parses parsed.bytes c.in-Err-AllocErr.field-0-0 parsed.asks
    (λ trees is. rw c.in-Err-AllocErr.field-0-is at (c.in-Err-AllocErr.ensures.spends trees is))
    (λ trees is. rw c.in-Err-AllocErr.field-0-is at (c.in-Err-AllocErr.ensures.asks trees is)))

pub returns-in-Err-OutOfMemory-clause-other : goal.returns-in-Err-OutOfMemory-clause-other
returns-in-Err-OutOfMemory-clause-other g c = let parsed = c.in_default.ensures in
    exhausted c.tree_weight.ensures c.requires.unused parsed.parses parsed.bytes
    (λ trees is. rw c.in-Err-OutOfMemory.field-0-is at (c.in-Err-OutOfMemory.ensures.spends trees is))

pub unreachable-requires : goal.unreachable-requires
unreachable-requires g c = let parsed = c.in_default.ensures in
    fits c.tree_weight.ensures c.requires.unused parsed.parses parsed.bytes
    (λ trees is. rw c.in-Err-CapacityOverflow.field-0-is at (c.in-Err-CapacityOverflow.ensures.spends trees is))
