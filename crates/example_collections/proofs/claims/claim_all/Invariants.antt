use Rattle.std.proofs.Common.{◌≡◌, ◌++◌, ◌≤◌, vec_len, vec_capacity}
use Rattle.example_collections.proofs.claims.claim_all.Given as goal

abbrev pub invariant-loop-word : goal.invariant-loop-word
invariant-loop-word l =
    (l.seat.table ≡ l.claims) × (l.seat.view.claimed ≡ l.fn.seat.view.claimed ++ l.mine.items) × (vec_len l.mine ≤ l.word)
    × (l.words ≤ vec_capacity l.mine)
