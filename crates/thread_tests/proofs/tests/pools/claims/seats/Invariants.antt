use Rattle.std.proofs.Common.{◌≡◌, ◌≤◌, ◌+◌, All, vec_len, vec_capacity}
use Rattle.thread_tests.proofs.tests.pools.claims.seats.Given as goal

abbrev pub invariant-loop-i : goal.invariant-loop-i
invariant-loop-i l = (l.seat.table ≡ l.claims) × All (λ s. s.table ≡ l.claims) l.all.items × (vec_len l.all + 1 ≡ l._i)
    × (64 ≤ vec_capacity l.all)
