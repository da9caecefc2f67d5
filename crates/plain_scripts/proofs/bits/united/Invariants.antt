use Rattle.std.proofs.Common.{◌≡◌}
use Rattle.script_rules.specs.Objects.{united}
use Rattle.plain_scripts.proofs.bits.united.Given as goal

abbrev pub invariant-loop-bit : goal.invariant-loop-bit
invariant-loop-bit l = united l.end l.all l.bit-iterator ≡ united l.end l.initial.all l.initial.bit-iterator
