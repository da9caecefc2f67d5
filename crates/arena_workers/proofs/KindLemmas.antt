-- Which pool an arena is of, by what became of it.
use Rattle.std.proofs.Common.{◌≡◌, ℕ, ◌<◌, true, false, refl, arith}
use Rattle.arena_rules.specs.State.{State, allocated_bytes}
use Rattle.arena_pool.specs.Kinds.{IsOfKind}
use Rattle.arena_pool.specs.declared.kind.PoolKind.{PoolKind}
use Rattle.arena_pool.specs.declared.kind.PoolKind.TheVariants.{Standard, FixedSize}
use Rattle.arena_workers.specs.Starving.{IsTooSmall}

-- An arena that still grows, or keeps its bytes, is still of the pool's kind.
pub kind_kept : (old new : State) → new.is_growing ≡ old.is_growing
    → (old.is_growing ≡ false → allocated_bytes new ≡ allocated_bytes old) → (kind : PoolKind) → IsOfKind kind old → IsOfKind kind new
kind_kept old new growing allocated kind is = grind (arith, is)

-- An arena that grows is of a standard pool.
pub grows_standard : (kind : PoolKind) (state : State) → IsOfKind kind state → state.is_growing ≡ true → kind ≡ Standard
grows_standard kind state is grows = grind (arith, is.growing)

-- One that is full is of a fixed pool, whose regions have too few bytes.
pub full_small : (kind : PoolKind) (state : State) (bytes : ℕ) → IsOfKind kind state → state.is_growing ≡ false
    → allocated_bytes state < bytes → IsTooSmall kind bytes
full_small Standard state bytes is still short = absurd (grind (arith, is.growing))
full_small (FixedSize region) state bytes is still short =
    record { region = region; fixed = refl; short = omega (arith, short, is.region region refl) }
