use Rattle.std.proofs.Common.{◌≡◌, ◌++◌}
use Rattle.arena_bits.specs.Bits.{bits_of}
use Rattle.arena_bits.specs.Walks.{words_in}
use Rattle.arena_bits.specs.Printed.{lower}
use Rattle.arena_bits.proofs.printed.push_lower.Given as goal

abbrev pub invariant-loop-i : goal.invariant-loop-i
invariant-loop-i l = l.text ++ lower (bits_of (words_in l.bytes)) l.i ≡ l.fn.text ++ lower (bits_of (words_in l.bytes)) l.top
