use Rattle.std.proofs.Common.{◌≡◌, ◌-◌}
use Rattle.arena_bits.specs.Bits.{bits_of, members}
use Rattle.arena_bits.specs.Walks.{IsScan, words_in}
use Rattle.arena_bits.proofs.ones.load.Given as goal

abbrev pub invariant-words : goal.invariant-words
invariant-words l = IsScan (words_in l.bytes) l.capacity l.scan
    × (members (bits_of (words_in l.bytes)) l.scan.front l.capacity ≡ members (bits_of (words_in l.bytes)) l.fn.start.front l.capacity)

abbrev pub decreases-words : goal.decreases-words
decreases-words l = l.capacity - l.scan.base
