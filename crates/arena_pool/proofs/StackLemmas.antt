-- The arenas of a new pool, one after another.
use Rattle.std.proofs.Common.{◌≡◌, ℕ, ◌+◌, List, [], ◌∷◌, ◌++◌, Option, map, All, arith, zero-add}
use Rattle.std.specs.List.{range_with_len}
use Rattle.std.proofs.lemmas.List.{map-append}
use Rattle.std.proofs.lemmas.List.Elements.{All-push}
use Rattle.std.proofs.lemmas.List.FromFn.{map-range_with_len_more}
use Rattle.arena_chunks.specs.Source.{View}
use Rattle.arena_pool.specs.declared.kind.PoolKind.{PoolKind}
use Rattle.arena_pool.specs.Kinds.{HasLimit, first_id, IsNew, IsUnused}
use Rattle.arena_pool.specs.Pool.{Pooled, IsPooled}
use Rattle.arena_pool.proofs.KindLemmas.{new_within}

-- the first n arenas of a new pool
pub record AreFirst (kind : PoolKind) (limit : Option ℕ) (n : ℕ) (stack : List Pooled) : Type 0 where
  pub arenas : All (λ (a : Pooled). IsNew kind a.0) stack
  pub ids : map (λ (a : Pooled). a.1) stack ≡ map (first_id kind) (range_with_len 0 n)
  pub pooled : All (IsPooled kind limit) stack

-- One more arena is stored, with the next id.
pub one_more : (kind : PoolKind) (limit : Option ℕ) (n : ℕ) (stack : List Pooled) (arena : View) → HasLimit kind limit
    → AreFirst kind limit n stack → IsNew kind arena → IsUnused kind arena
    → AreFirst kind limit (n + 1) (stack ++ (arena, first_id kind n) ∷ [])
one_more kind limit n stack arena has first new unused = record {
  arenas = All-push (λ (a : Pooled). IsNew kind a.0) stack (arena, first_id kind n) first.arenas new;
  ids = simp (map-append, first.ids, map-range_with_len_more (first_id kind) 0 n n (zero-add n));
  pooled = All-push (IsPooled kind limit) stack (arena, first_id kind n) first.pooled
      (record { unused = unused; id = grind arith; within = new_within kind limit arena has new });
}
