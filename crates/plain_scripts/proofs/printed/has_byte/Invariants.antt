use Rattle.std.proofs.Common.{◌≡◌, ◌+◌, ◌*◌}
use Rattle.script_rules.specs.Objects.{has}
use Rattle.plain_scripts.proofs.LoopLemmas.{some_from}
use Rattle.plain_scripts.proofs.printed.has_byte.Given as goal

abbrev pub invariant-loop-j : goal.invariant-loop-j
invariant-loop-j l = some_from (λ j. has l.bits (8 * l.k + j)) l.j 8 ≡ some_from (λ j. has l.bits (8 * l.k + j)) 0 8
