-- What new arenas are, and what a reset makes of an arena.
use Rattle.std.proofs.Common.{◌≡◌, ℕ, ◌-◌, false, not, Option, List, [], ◌∷◌, length, take, replicate, refl, ap, ◌∙◌, arith}
use Rattle.std.proofs.lemmas.Bool.Decides.{nat_tests}
use Rattle.std.proofs.lemmas.List.{length-replicate, take-replicate}
use Rattle.arena_rules.specs.State.{State, IsValid}
use Rattle.arena_rules.specs.Moves.{reset}
use Rattle.arena_rules.specs.Creation.{fixed_state}
use Rattle.arena_rules.proofs.CreationLemmas.{growing_valid}
use Rattle.arena_rules.proofs.ResetLemmas.{reset_valid, reset_used}
use Rattle.arena_chunks.specs.Source.{View, Source, view}
use Rattle.arena_chunks.specs.Creating.{uncounted_memory}
use Rattle.arena_chunks.proofs.Layers.{reset_keeps_bytes}
use Rattle.arena_pool.specs.declared.kind.PoolKind.{PoolKind}
use Rattle.arena_pool.specs.declared.kind.PoolKind.TheVariants.{Standard, FixedSize}
use Rattle.arena_pool.specs.Kinds.{is_fixed, HasRegions, HasLimit, IsWithin, IsOfKind, IsUnused, IsFresh, IsNew, reset_view}

-- a kind with regions is that of arenas that don't grow
pub still : (kind : PoolKind) (bytes : ℕ) (state : State) → IsOfKind kind state → kind ≡ FixedSize bytes → state.is_growing ≡ false
still kind bytes state of_kind is = of_kind.growing ∙ ap (λ (k : PoolKind). not (is_fixed k)) is

pub reset_of_kind : (kind : PoolKind) (state : State) → IsValid state → IsOfKind kind state → IsOfKind kind (reset state)
reset_of_kind kind state valid of_kind = grind (arith, reset_keeps_bytes state valid)

-- After a reset no bytes are in use, and the kind is as before.
pub reset_is_unused : (kind : PoolKind) (arena : View) → IsValid arena.memory.state → IsOfKind kind arena.memory.state
    → IsUnused kind (reset_view arena)
reset_is_unused kind arena valid of_kind =
    grind (arith, reset_valid arena.memory.state valid, reset_used arena.memory.state, reset_of_kind kind arena.memory.state valid of_kind)

-- a new arena that grows
pub new_standard : (arena : View) → IsNew Standard arena → IsUnused Standard arena
new_standard arena new = grind (arith, new.memory, growing_valid 1 refl)

-- No new arena exceeds a limit: one that grows has no bytes yet, and a fixed pool has no limit.
pub new_within : (kind : PoolKind) (limit : Option ℕ) (arena : View) → HasLimit kind limit → IsNew kind arena → IsWithin limit arena
new_within kind limit arena has new = grind (arith, nat_tests, new.memory)

-- A region of zeros, except for its last 48 bytes, makes a new arena.
pub region_is_new : (bytes : ℕ) (items : List ℕ) (arena : View) (source : Source) → HasRegions (FixedSize bytes) → items ≡ replicate bytes 0
    → arena ≡ view (uncounted_memory (fixed_state 1 (length items - 48)) (take (length items - 48) items ∷ [])) source → IsFresh source
    → IsNew (FixedSize bytes) arena
region_is_new bytes items arena source regions zeros is fresh = grind (arith, is, length-replicate {A = ℕ}, take-replicate {X = ℕ})
