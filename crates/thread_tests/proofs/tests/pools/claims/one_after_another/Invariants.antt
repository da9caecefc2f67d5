use Rattle.std.proofs.Common.{◌≡◌}
use Rattle.thread_tests.proofs.tests.pools.claims.one_after_another.Given as goal

abbrev pub invariant-loop-word : goal.invariant-loop-word
invariant-loop-word l = l.seat.table ≡ l.claims

abbrev pub invariant-loop-look : goal.invariant-loop-look
invariant-loop-look l = l.other.table ≡ l.claims
