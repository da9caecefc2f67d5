use Rattle.std.proofs.Common.{◌≡◌, ◌-◌, ◌*◌, drop, length}
use Rattle.hash_ring.specs.Fx.{spread, folded}
use Rattle.hash_ring.proofs.hasher.long_of.Given as goal

abbrev pub invariant-loop-i : goal.invariant-loop-i
invariant-loop-i l = folded l.hash (l.words - l.i) (drop (8 * l.i) l.content) ≡ folded (spread (length l.content)) l.words l.content
