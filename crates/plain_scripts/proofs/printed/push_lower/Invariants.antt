use Rattle.std.proofs.Common.{◌≡◌, ◌++◌}
use Rattle.arena_rules.specs.PrintedBits.{lower}
use Rattle.script_rules.specs.Objects.{has}
use Rattle.plain_scripts.proofs.printed.push_lower.Given as goal

abbrev pub invariant-loop-i : goal.invariant-loop-i
invariant-loop-i l = l.text ++ lower (has l.bits) l.i ≡ l.fn.text ++ lower (has l.bits) l.k
