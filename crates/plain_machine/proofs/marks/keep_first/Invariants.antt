use Rattle.std.proofs.Common.{◌≡◌}
use Rattle.arena_rules.specs.Back.{first_chunks}
use Rattle.plain_machine.proofs.marks.keep_first.Given as goal

abbrev pub invariant-loop-chunks : goal.invariant-loop-chunks
invariant-loop-chunks l = first_chunks l.n l.chunks.items ≡ first_chunks l.n l.initial.chunks.items

abbrev pub decreases-loop-chunks : goal.decreases-loop-chunks
decreases-loop-chunks l = l.chunks.len
