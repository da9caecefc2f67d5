-- What is kept of an arena that refused shows that the work on it was starved; and which pools refuse, and which are full.
use Rattle.std.proofs.Common.{◌≡◌, ◌≢◌, ℕ, ◌+◌, ◌<◌, ◌≤◌, ◌^◌, inl, inr, List, [], ◌∷◌, ◌++◌, length, length-append, Option, None, Some, refl, append_assoc, arith}
use Rattle.std.specs.Prelude.{IfSome, IsSomeAnd}
use Rattle.std.specs.List.{AllByRecursion}
use Rattle.arena_rules.specs.State.{used_bytes, allocated_bytes, top_of}
use Rattle.arena_rules.specs.Asking.{IsRequestWithin, AddsWithin, most_asked}
use Rattle.arena_chunks.specs.Source.{Source, View}
use Rattle.arena_chunks.specs.Asking.{AsksWithin, IsStarved, IsFull}
use Rattle.arena_pool.specs.Kinds.{IsUnused}
use Rattle.arena_pool.specs.declared.kind.PoolKind.{PoolKind}
use Rattle.arena_pool.specs.declared.kind.PoolKind.TheVariants.{Standard}
use Rattle.arena_workers.specs.Working.{LiesLow, IsKept}
use Rattle.arena_workers.specs.Starving.{IsTooSmall, EndsWithin, ShowsStarved}
use Rattle.arena_workers.specs.declared.served.Starved.{Starved}
use Rattle.arena_workers.specs.declared.served.Starved.TheVariants.{Refused, Grown}
use Rattle.arena_workers.proofs.KindLemmas.{grows_standard, full_small}

-- The last item that was appended ends the list, if there is one.
last_added : (few many : ℕ) (before added : List (ℕ × ℕ)) → few ≤ many → added ≢ [] → AllByRecursion (IsRequestWithin few) added
    → EndsWithin many (before ++ added)
last_added few many before [] less some within = absurd (some refl)
last_added few many before (r ∷ []) less some within =
    record { before = before; last = r; all = refl; within = (omega (arith, less, within.0.0), within.0.1) }
last_added few many before (r ∷ (s ∷ rs)) less some within =
    rw (← append_assoc before (r ∷ []) (s ∷ rs)) (last_added few many (before ++ r ∷ []) (s ∷ rs) less (λ e. cc) within.1)

-- The requests of a run, of which there is at least one.
told_last : (few many : ℕ) (before after : Option (List (ℕ × ℕ))) → few ≤ many
    → IfSome after (λ all. IsSomeAnd before (λ some. AddsWithin few some all))
    → IfSome after (λ all. IsSomeAnd before (λ some. length some < length all)) → IfSome after (EndsWithin many)
told_last few many before None less adds longer = tt
told_last few many None (Some all) less adds longer = absurd adds
told_last few many (Some some) (Some all) less adds longer = rw adds.all (last_added few many some adds.added less
    (λ none. absurd (grind (arith, adds.all, none, longer, length-append {A = ℕ × ℕ}))) adds.within)

-- If the arena was low and isn't large, a starved run has a source that has refused; and its last request is small.
source_shows : (bytes most : ℕ) (old new : View) → bytes ≤ most → used_bytes old.memory.state ≡ 0
    → top_of old.memory.state.chunks ≤ 2 ^ 62 → allocated_bytes new.memory.state < 2 ^ 60
    → AsksWithin (used_bytes old.memory.state + bytes) old new → IsStarved (2 ^ 62) old new
    → (0 < new.source.refusals) × IfSome new.source.asked (EndsWithin (most_asked most))
source_shows bytes most old new less unused low small asks starved = elim starved.cause [
  | inl far ↦ absurd (omega (arith, far, low))
  | inr (inl large) ↦ absurd (omega (arith, large, small))
  | inr (inr refused) ↦ (
    omega (arith, refused.refused),
    told_last (most_asked (used_bytes old.memory.state + bytes)) (most_asked most) old.source.asked new.source.asked
        (omega (arith, unused, less)) asks.told refused.asked,
  )
]

-- work on an arena of a pool, from before to after, that needs at most this many bytes
module _ {C : Type 0} (source : C → Source) (kind : PoolKind) (old new : View) (unused : IsUnused kind old)
    (low : LiesLow old.memory.state) (bytes : ℕ) where
  pub too_small : IsFull bytes old → IsTooSmall kind bytes
  too_small full = full_small kind old.memory.state bytes unused.of_kind full.still full.short

  pub standard : IsStarved (2 ^ 62) old new → kind ≡ Standard
  standard starved = grows_standard kind old.memory.state unused.of_kind starved.growing

  -- what is kept shows it, also for more bytes
  pub shown : (most : ℕ) → bytes ≤ most → AsksWithin (used_bytes old.memory.state + bytes) old new → IsStarved (2 ^ 62) old new
      → (o : Option (Starved C)) → IsSomeAnd o (IsKept source new) → IsSomeAnd o (ShowsStarved source most)
  shown most less asks starved None kept = absurd kept
  shown most less asks starved (Some (Refused c)) kept =
      rw kept.0 (source_shows bytes most old new less unused.used (low.top starved.growing) kept.1 asks starved)
  shown most less asks starved (Some (Grown a)) kept = rw kept.0 kept.1
