-- What a growing arena asks its source for, in calls that need a bounded number of bytes, and why there may be no place
-- for a block.
use Rattle.std.specs.Prelude.{◌≡◌, ℕ, ◌+◌, ◌-◌, ◌*◌, ◌^◌, ◌<◌, ◌≤◌, ◌⊎◌, true, false, List, ◌++◌, length, IfSome, IsSomeAnd}
use Rattle.std.specs.List.{AllByRecursion}
use Rattle.arena_rules.specs.State.{State, top_of, allocated_bytes, used_bytes}
use Rattle.arena_rules.specs.Source.{Source}

-- ---- What is asked for

-- the most bytes in one request for a chunk, where this many bytes are needed: twice as many, and five pages
abbrev pub most_asked : ℕ → ℕ
most_asked bytes = 2 * bytes + 20480

-- a request at alignment 16 for at most this many bytes
abbrev pub IsRequestWithin : ℕ → ℕ × ℕ → Type 0
IsRequestWithin most request = (request.0 ≤ most) × (request.1 ≡ 16)

-- These requests were added to those reported before, each for at most `most` bytes at alignment 16.
pub record AddsWithin (most : ℕ) (before after : List (ℕ × ℕ)) : Type 0 where
  pub added : List (ℕ × ℕ)
  pub all : after ≡ before ++ added
  pub within : AllByRecursion (IsRequestWithin most) added

-- No chunk was freed, and the newest data end rose by at most twice as much as the arena's bytes.
pub record HasGrown (old new : State) : Type 0 where
  pub allocated : allocated_bytes old ≤ allocated_bytes new
  pub top : top_of new.chunks + 2 * allocated_bytes old ≤ top_of old.chunks + 2 * allocated_bytes new

-- Calls that need at most this many bytes in use: what became of the arena's chunks, and what it asked its source for.
pub record AsksWithin (bytes : ℕ) (old new : State) (before after : Source) : Type 0 where
  pub chunks : HasGrown old new
  pub refusals : before.refusals ≤ after.refusals
  pub told : IfSome after.asked (λ all. IsSomeAnd before.asked (λ some. AddsWithin (most_asked bytes) some all))

-- ---- Why there is no place

-- The source refused: its count rose, or is at its maximum. If it reports its requests, at least one was made.
pub record IsRefusedBySource (before after : Source) : Type 0 where
  pub refused : (before.refusals < after.refusals) ⊎ (after.refusals ≡ 2 ^ 64 - 1)
  pub asked : IfSome after.asked (λ all. IsSomeAnd before.asked (λ some. length some < length all))

-- The refusals in a reply are the source's: its count rose by at least as many, or is at its maximum.
abbrev pub IsCounted : ℕ → Source → Source → Type 0
IsCounted told before after = (before.refusals + told ≤ after.refusals) ⊎ (after.refusals ≡ 2 ^ 64 - 1)

-- Calls on a growing arena were starved: its newest data end was above `far` at the start, or it has at least 2 ^ 60
-- bytes at the end, or the source refused.
pub record IsStarved (far : ℕ) (old new : State) (before after : Source) : Type 0 where
  pub growing : old.is_growing ≡ true
  pub cause : (far < top_of old.chunks) ⊎ (2 ^ 60 ≤ allocated_bytes new) ⊎ IsRefusedBySource before after

-- Calls that need at most this many more bytes asked for chunks within what was in use and these bytes, and were
-- starved: the source refused, the newest data end was above 2 ^ 62 at the start, or the arena has at least 2 ^ 60
-- bytes at the end.
pub record IsStarvedWithin (bytes : ℕ) (old new : State) (before after : Source) : Type 0 where
  pub asks : AsksWithin (used_bytes old + bytes) old new before after
  pub starved : IsStarved (2 ^ 62) old new before after

-- An arena that doesn't grow has fewer bytes than are needed.
pub record IsFull (bytes : ℕ) (state : State) : Type 0 where
  pub still : state.is_growing ≡ false
  pub short : allocated_bytes state < bytes
