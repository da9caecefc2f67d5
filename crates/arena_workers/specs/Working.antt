-- Work that is done on lent arenas, and the results of its pieces.
use Rattle.std.specs.Prelude.{◌≡◌, ℕ, ◌<◌, ◌≤◌, ◌^◌, ◌⊎◌, Bool, true, false, None, IsSomeAnd}
use Rattle.arena_rules.specs.State.{State, allocated_bytes, top_of}
use Rattle.arena_chunks.specs.Source.{Source, View}
use Rattle.arena_pool.specs.Kinds.{IsOfKind, IsUnused}
use Rattle.arena_pool.specs.declared.kind.PoolKind.{PoolKind}
use Rattle.arena_workers.specs.declared.served.Served.{Served}
use Rattle.arena_workers.specs.declared.served.Starved.{Starved}
use Rattle.arena_workers.specs.declared.served.Starved.TheVariants.{Refused, Grown}

-- The terms of a kind of work: which pieces it accepts; how a piece with its number relates the arena before and after, and the
-- outcome; what is known of the outcome of a piece that wasn't begun; and which outcomes say that an arena refused.
pub record Terms (Piece Outcome : Type 0) : Type 1 where
  pub accepts : Piece → Type 0
  pub done : ℕ → Piece → View → View → Outcome → Type 0
  pub unserved : Outcome → Type 0
  pub is_refused : Outcome → Bool

-- An arena that doesn't grow, or whose newest chunk ends low: there is place for more after it.
pub record LiesLow (state : State) : Type 0 where
  pub top : state.is_growing ≡ true → top_of state.chunks ≤ 2 ^ 62

-- An arena that grows, and whose newest chunk ends high.
pub record LiesHigh (state : State) : Type 0 where
  pub growing : state.is_growing ≡ true
  pub top : 2 ^ 62 < top_of state.chunks

-- What is kept of an arena that refused: the arena itself if it is large, otherwise its source.
abbrev pub IsKept : {C : Type 0} → (C → Source) → View → Starved C → Type 0
IsKept source arena (Refused c) = (source c ≡ arena.source) × (allocated_bytes arena.memory.state < 2 ^ 60)
IsKept source arena (Grown a) = (a ≡ arena) × (2 ^ 60 ≤ allocated_bytes arena.memory.state)

-- There was no memory for the piece. Its outcome doesn't say that an arena refused.
pub record IsUnserved {Piece Outcome C : Type 0} (terms : Terms Piece Outcome) (served : Served Outcome C) : Type 0 where
  pub unserved : terms.unserved served.outcome
  pub other : terms.is_refused served.outcome ≡ false
  pub none : served.starved ≡ None

-- The work on the piece with this number was done on an arena of the pool's kind with no bytes in use, which was low.
-- Something is kept of the arena exactly if the outcome says that it refused.
pub record IsDone {Piece Outcome C : Type 0} (source : C → Source) (kind : PoolKind) (terms : Terms Piece Outcome)
    (numbered : ℕ × Piece) (served : Served Outcome C) : Type 0 where
  pub old : View
  pub new : View
  pub unused : IsUnused kind old
  pub low : LiesLow old.memory.state
  pub done : terms.done numbered.0 numbered.1 old new served.outcome
  pub of_kind : IsOfKind kind new.memory.state
  pub refused : terms.is_refused served.outcome ≡ true → IsSomeAnd served.starved (IsKept source new)
  pub other : terms.is_refused served.outcome ≡ false → served.starved ≡ None

abbrev pub IsServed : {Piece Outcome C : Type 0} → (C → Source) → PoolKind → Terms Piece Outcome → ℕ × Piece → Served Outcome C → Type 0
IsServed source kind terms numbered served = IsDone source kind terms numbered served ⊎ IsUnserved terms served
