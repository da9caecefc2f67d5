-- Sets: maps whose values have no bytes.
use Rattle.std.specs.Prelude.{◌≡◌, ℕ, List, map, Option, Some, None}
use Rattle.arena_items.specs.declared.item.Item.{Ghosts}
use Rattle.hash_ring.specs.Finite.{Finite, has}
use Rattle.hash_ring.specs.Walks.{Lists}
use Rattle.arena_table.specs.Contents.{Key, Kind, kind}

-- what a set's types determine
abbrev pub set_kind : {T S : Type 0} → Ghosts T → Key T → (S → List ℕ → ℕ) → Kind T (Unit {0}) S
set_kind items key hash = kind items key Rattle.arena_items.specs.contracts.numbers.plain.UnitItem.TheImpl.ghosts hash

-- The list has each key of a map once: it is the keys of a list of the map's pairs.
abbrev pub ListsKeys : {K V : Type 0} → (K → List ℕ) → Finite K V → List K → Type 0
ListsKeys {K} {V} content is keys = (pairs : List (K × V)) × (keys ≡ map (λ p. p.0) pairs) × Lists content is pairs

-- the same contents are keys of both maps
abbrev pub HaveSame : {K V : Type 0} → Finite K V → Finite K V → Type 0
HaveSame one other = (q : List ℕ) → has one q ≡ has other q

-- An iterator's items as the pairs of a set: each with no value.
abbrev pub StepsInPairs : {T I : Type 0} → (I → Option T → I → Type 0) → I → Option (T × Unit {0}) → I → Type 0
StepsInPairs steps now None next = steps now None next
StepsInPairs steps now (Some p) next = steps now (Some p.0) next
