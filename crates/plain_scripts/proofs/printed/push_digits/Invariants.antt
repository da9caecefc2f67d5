use Rattle.std.proofs.Common.{◌≡◌, ◌++◌}
use Rattle.arena_rules.specs.PrintedBits.{digits}
use Rattle.script_rules.specs.Objects.{has}
use Rattle.plain_scripts.proofs.printed.push_digits.Given as goal

abbrev pub invariant-loop-place : goal.invariant-loop-place
invariant-loop-place l = l.text ++ digits (has l.bits) l.from l.place ≡ l.fn.text ++ digits (has l.bits) l.from l.n
