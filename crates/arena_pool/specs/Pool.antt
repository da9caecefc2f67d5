-- A pool of arenas, and its events.
use Rattle.std.specs.Prelude.{◌≡◌, ℕ, ◌+◌, ◌-◌, ◌^◌, ◌<◌, ◌⊎◌, IsTrue, Option, None, Result, Ok, Err, List, [], ◌∷◌, ◌++◌, map, length, All, Bool, ◌&&◌, ◌||◌, nat_lt, not, if◌then◌else◌}
use Rattle.std.specs.List.{range_with_len}
use Rattle.arena_rules.specs.State.{allocated_bytes}
use Rattle.arena_chunks.specs.Source.{View}
use Rattle.arena_pool.specs.Kinds.{is_fixed, first_id, HasId, HasLimit, is_within, IsWithin, IsUnused, IsNew, reset_view}
use Rattle.arena_pool.specs.declared.kind.PoolKind.{PoolKind}
use Rattle.arena_pool.specs.declared.kind.PoolKind.TheVariants.{Standard}
use Rattle.arena_pool.specs.declared.book.PoolErr.{PoolErr}
use Rattle.arena_pool.specs.declared.book.PoolErr.TheVariants.{PoolEmpty, OutOfMemory, Limit}

-- an arena with its id
abbrev pub Pooled : Type 0
Pooled = View × Option ℕ

-- The kind of a pool's arenas, and the limit on the bytes of a stored one, if there is one; the stored arenas, newest
-- last; and how many were made, are stored, are lent and were given up.
pub record Pool : Type 0 where
  pub kind : PoolKind
  pub limit : Option ℕ
  pub stack : List Pooled
  pub made : ℕ
  pub stored : ℕ
  pub lent : ℕ
  pub given_up : ℕ

-- an arena as it is stored, and as it is lent
pub record IsPooled (kind : PoolKind) (limit : Option ℕ) (p : Pooled) : Type 0 where
  pub unused : IsUnused kind p.0
  pub id : HasId kind p.1
  pub within : IsWithin limit p.0

-- Every arena that was made is stored, lent or given up. A fixed pool has no limit.
pub record IsPool (p : Pool) : Type 0 where
  pub limit : HasLimit p.kind p.limit
  pub made : p.made ≡ p.stored + p.lent + p.given_up
  pub stored : p.stored ≡ length p.stack
  pub stack : All (IsPooled p.kind p.limit) p.stack

-- ---- How a pool begins

-- a new pool has stored `count` new arenas
pub record Begins (kind : PoolKind) (limit : Option ℕ) (count : ℕ) (p : Pool) : Type 0 where
  pub arenas : All (λ (a : Pooled). IsNew kind a.0) p.stack
  pub ids : map (λ (a : Pooled). a.1) p.stack ≡ map (first_id kind) (range_with_len 0 count)
  pub pool : p ≡ record { kind = kind; limit = limit; stack = p.stack; made = count; stored = count; lent = 0; given_up = 0 }

-- ---- Get

-- the newest of the stack is lent
pub record LendsStored (p : Pool) (lent : Pooled) (q : Pool) : Type 0 where
  pub stack : p.stack ≡ q.stack ++ lent ∷ []
  pub pool : q ≡ record p { stack = q.stack; stored = p.stored - 1; lent = p.lent + 1 }

-- if none is stored, a standard pool lends a new arena
pub record LendsNew (p : Pool) (lent : Pooled) (q : Pool) : Type 0 where
  pub none_stored : p.stack ≡ []
  pub standard : p.kind ≡ Standard
  pub room : p.made < 2 ^ 64 - 1
  pub arena : IsNew Standard lent.0
  pub id : lent.1 ≡ None
  pub pool : q ≡ record p { made = p.made + 1; lent = p.lent + 1 }

-- Why none is lent, if none is stored: the pool is fixed; it has made as many as can be counted; or it is out of
-- memory.
abbrev pub LendsNone : Pool → PoolErr → Type 0
LendsNone p PoolEmpty = (p.stack ≡ []) × IsTrue (is_fixed p.kind)
LendsNone p Limit = (p.stack ≡ []) × (p.kind ≡ Standard) × (p.made ≡ 2 ^ 64 - 1)
LendsNone p OutOfMemory = (p.stack ≡ []) × (p.kind ≡ Standard) × (p.made < 2 ^ 64 - 1)

abbrev pub Gets : Pool → Result Pooled PoolErr → Pool → Type 0
Gets p (Ok lent) q = LendsStored p lent q ⊎ LendsNew p lent q
Gets p (Err e) q = LendsNone p e × (q ≡ p)

-- the maximum number of arenas that are lent at once
abbrev pub most_lent : ℕ
most_lent = 4294967295

-- A get needn't wait: fewer than the maximum are lent, and one is stored or can be made.
abbrev pub can_take : Pool → Bool
can_take p = nat_lt p.lent most_lent && (nat_lt 0 (length p.stack) || not (is_fixed p.kind) && nat_lt p.made (2 ^ 64 - 1))

-- ---- Put, and give up

-- an arena that was lent becomes the newest of the stack
abbrev pub store : Pool → Pooled → Pool
store p a = record p { stack = p.stack ++ a ∷ []; stored = p.stored + 1; lent = p.lent - 1 }

-- an arena that was lent is given up
abbrev pub give_up : Pool → Pool
give_up p = record p { lent = p.lent - 1; given_up = p.given_up + 1 }

-- an arena that was lent is stored, or given up if it exceeds the limit
abbrev pub keep : Pool → Pooled → Pool
keep p a = if is_within p.limit (allocated_bytes a.0.memory.state) then store p a else give_up p

-- an arena that was lent is reset, and kept as by `keep`
abbrev pub put : Pool → View → Option ℕ → Pool
put p arena id = keep p (reset_view arena, id)
