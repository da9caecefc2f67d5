use Rattle.arena_store.proofs.BelowLemmas.{IsSplitBelow}
use Rattle.arena_store.proofs.below.count.Given as goal

abbrev pub invariant-loop-i : goal.invariant-loop-i
invariant-loop-i g l = IsSplitBelow l.bases.items l.addr l.i l.n
