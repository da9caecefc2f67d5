-- Walks over a table. Lists of pairs and equality of maps are those of `hash_ring`.
use Rattle.std.specs.Prelude.{◌≡◌, ℕ, ◌⊎◌, List, length, take, drop}
use Rattle.arena_items.specs.declared.item.Item.{Ghosts}
use Rattle.hash_ring.specs.Slots.{items}
use Rattle.hash_ring.specs.declared.scan.Scan.{Scan}
pub use Rattle.hash_ring.specs.Walks.{front_of, AreBoth, AreEqual, AreFree, AreTaken, CarriesNext, GoesOn, IsByGroups, IsScan, Lists}
use Rattle.arena_table.specs.Tables.{IsShape, slots_of}

-- the pairs that a walk over a table's bytes has left
abbrev pub left_in : {K V : Type 0} → Ghosts K → Ghosts V → ℕ → List ℕ → Scan → List (K × V)
left_in keys values n bytes s = items (drop (front_of s) (slots_of keys values n bytes))

-- A walk over a table's bytes: its position, and the number of pairs left.
pub record IsWalk {K V : Type 0} (keys : Ghosts K) (values : Ghosts V) (n : ℕ) (bytes : List ℕ) (s : Scan) (left : ℕ) : Type 0 where
  pub shape : (n ≡ 0) ⊎ IsShape keys values n bytes
  pub scan : IsScan n (take n bytes) s
  pub count : left ≡ length (left_in keys values n bytes s)
