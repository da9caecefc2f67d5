use Rattle.std.proofs.Common.{◌≡◌, ◌++◌}
use Rattle.arena_bits.specs.Printed.{bits_in, digits}
use Rattle.arena_bits.proofs.printed.push_digits.Given as goal

abbrev pub invariant-loop-place : goal.invariant-loop-place
invariant-loop-place l = l.text ++ digits (bits_in l.byte) 0 l.place ≡ l.fn.text ++ digits (bits_in l.byte) 0 8
