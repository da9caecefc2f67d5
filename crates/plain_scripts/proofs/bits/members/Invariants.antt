use Rattle.std.proofs.Common.{◌≡◌, ◌++◌}
use Rattle.arena_rules.specs.Bits.{members}
use Rattle.script_rules.specs.Objects.{has}
use Rattle.plain_scripts.proofs.bits.members.Given as goal

abbrev pub invariant-loop-bit : goal.invariant-loop-bit
invariant-loop-bit l = l.all.items ++ members (has l.bits) l.bit l.capacity ≡ members (has l.bits) 0 l.capacity
