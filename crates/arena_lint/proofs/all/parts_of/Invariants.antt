use Rattle.std.proofs.Common.{◌≡◌, take}
use Rattle.arena_lint.proofs.all.parts_of.Given as goal

abbrev pub invariant-loop-bytes : goal.invariant-loop-bytes
invariant-loop-bytes l = l.parts.items ≡ take l.bytes-index l.sources
