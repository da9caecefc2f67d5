use Rattle.std.proofs.Common.{◌≡◌, length}
use Rattle.arena_bits.specs.Bits.{bits_of}
use Rattle.arena_bits.specs.Walks.{words_in}
use Rattle.arena_bits.specs.Printed.{highest}
use Rattle.arena_bits.proofs.printed.highest.Given as goal

abbrev pub invariant-loop-i : goal.invariant-loop-i
invariant-loop-i l = highest (bits_of (words_in l.bytes)) l.i ≡ highest (bits_of (words_in l.bytes)) (length l.bytes)
