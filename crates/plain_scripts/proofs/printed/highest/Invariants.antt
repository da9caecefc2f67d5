use Rattle.std.proofs.Common.{◌≡◌}
use Rattle.arena_rules.specs.PrintedBits.{highest}
use Rattle.script_rules.specs.Objects.{has}
use Rattle.plain_scripts.proofs.printed.highest.Given as goal

abbrev pub invariant-loop-k : goal.invariant-loop-k
invariant-loop-k l = highest (has l.bits) l.k ≡ highest (has l.bits) l.bytes
