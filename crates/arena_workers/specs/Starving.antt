-- What shows that work was starved, and which pools are too small for it.
use Rattle.std.specs.Prelude.{◌≡◌, ℕ, ◌-◌, ◌<◌, ◌≤◌, ◌^◌, List, [], ◌∷◌, ◌++◌, IfSome}
use Rattle.arena_rules.specs.State.{allocated_bytes}
use Rattle.arena_rules.specs.Asking.{IsRequestWithin, most_asked}
use Rattle.arena_chunks.specs.Source.{Source}
use Rattle.arena_pool.specs.declared.kind.PoolKind.{PoolKind}
use Rattle.arena_pool.specs.declared.kind.PoolKind.TheVariants.{FixedSize}
use Rattle.arena_workers.specs.declared.served.Starved.{Starved}
use Rattle.arena_workers.specs.declared.served.Starved.TheVariants.{Refused, Grown}

-- The pool is a fixed one, whose arenas have fewer bytes than these.
pub record IsTooSmall (kind : PoolKind) (bytes : ℕ) : Type 0 where
  pub region : ℕ
  pub fixed : kind ≡ FixedSize region
  pub short : region - 48 < bytes

-- the last of the requests is at alignment 16 and for at most this many bytes
pub record EndsWithin (most : ℕ) (requests : List (ℕ × ℕ)) : Type 0 where
  pub before : List (ℕ × ℕ)
  pub last : ℕ × ℕ
  pub all : requests ≡ before ++ last ∷ []
  pub within : IsRequestWithin most last

-- A source that has refused; and if it records its requests, the last is small compared with these bytes. Or an arena
-- that is large.
abbrev pub ShowsStarved : {C : Type 0} → (C → Source) → ℕ → Starved C → Type 0
ShowsStarved source bytes (Refused c) = (0 < (source c).refusals) × IfSome (source c).asked (EndsWithin (most_asked bytes))
ShowsStarved source bytes (Grown a) = 2 ^ 60 ≤ allocated_bytes a.memory.state
