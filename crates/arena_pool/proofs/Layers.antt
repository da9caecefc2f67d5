-- The lemmas that a layer above cites: which arenas are of a kind, what the events of a pool do, what a seat knows, and
-- what follows from the rules of claims and of two owners.
pub use Rattle.arena_pool.proofs.KindLemmas.{reset_of_kind, reset_is_unused}
pub use Rattle.arena_pool.proofs.KeptLemmas.{
  frame_of_kind,
  placed_of_kind,
  resized_of_kind,
  returned_of_kind,
  wrote_of_kind,
  array_of_kind,
  box_of_kind,
  slice_of_kind,
}
pub use Rattle.arena_pool.proofs.PoolLemmas.{got_is_lent, put_is_pool, put_unlimited, put_is_counted}
pub use Rattle.arena_pool.proofs.ClaimLemmas.{times-append, times-same, knows_claimed, knows_taken, is_taken}
pub use Rattle.arena_pool.proofs.ClaimLemmas.{counts_views, one_claims, once_each, happened}
pub use Rattle.arena_pool.proofs.OwnerLemmas.{once, two_share}

-- for automatic proof: calls keep the kind
pub ruleset kind_laws = (placed_of_kind, resized_of_kind, returned_of_kind, wrote_of_kind, array_of_kind, box_of_kind, slice_of_kind)

-- what the events of a book leave
pub ruleset event_laws = (got_is_lent, put_is_counted, put_unlimited)

-- the rule of claims
pub ruleset claim_laws = (counts_views, one_claims, once_each, happened)
