-- When values that are made of others are alike.
use Rattle.std.specs.Prelude.{◌≡◌, ℕ, Option, Some, None, List, length, slice_get}
use Rattle.arena_chunks.specs.Memory.{Memory}
use Rattle.arena_hash.specs.Contents.{Kind as MapTypes}
use Rattle.arena_hash.specs.Finite.{value_of}
use Rattle.arena_hash.specs.Maps.{map_in}
use Rattle.arena_hash.specs.declared.map.HashMap.{HashMap}
use Rattle.arena_clone.specs.Kinds.{Kind, AreAlike}
use Rattle.arena_kinds.specs.declared.ids.CloneInSemanticIds.{CloneInSemanticIds}

-- both are `None`, or their values are alike
abbrev pub AreOptionsAlike : {T : Type 0} → Kind T → CloneInSemanticIds → Memory → Option T → Memory → Option T → Type 0
AreOptionsAlike kind ids a None c None = Unit {0}
AreOptionsAlike kind ids a (Some v) c (Some w) = AreAlike kind ids a v c w
AreOptionsAlike kind ids a v c w = ⊥

-- they have the same length, and the values at each position are alike
pub record AreListsAlike {T : Type 0} (kind : Kind T) (ids : CloneInSemanticIds) (a : Memory) (vs : List T) (c : Memory) (ws : List T)
    : Type 0 where
  pub lengths : length vs ≡ length ws
  pub each : (i : ℕ) (v w : T) → slice_get vs i ≡ Some v → slice_get ws i ≡ Some w → AreAlike kind ids a v c w

-- the same contents are keys of both, and the values of each are alike
abbrev pub AreMapsAlike : {K V S : Type 0} → MapTypes K V S → Kind V → CloneInSemanticIds → Memory → HashMap K V S → Memory
    → HashMap K V S → Type 0
AreMapsAlike k values ids a v c w =
    (q : List ℕ) → AreOptionsAlike values ids a (value_of (map_in k a v q)) c (value_of (map_in k c w q))
