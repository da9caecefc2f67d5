-- Which blocks calls on lists of nodes ask their arena for, by size and alignment.
use Rattle.std.specs.Prelude.{◌≡◌, ℕ, ◌+◌, ◌*◌, ◌^◌, ◌<◌, ◌≤◌, ◌⊎◌, max}
use Rattle.arena_items.specs.Denied.{Layouts, Only}

-- a list with room for this many nodes
abbrev pub ListOf : ℕ → Layouts
ListOf nodes = Only (nodes * 88) 8

-- the list that replaces one without room for so many more nodes: of twice the capacity, or with room for just these if
-- that is more
abbrev pub LongerList : (len cap more : ℕ) → Layouts
LongerList len cap more size align = (cap < len + more) × ListOf (max (2 * cap) (len + more)) size align

-- The same, but for a list with no storage, which is replaced by one with this room.
abbrev pub ListFor : (len cap more room : ℕ) → Layouts
ListFor len cap more room size align =
    ((cap ≡ 0) × ListOf room size align) ⊎ ((0 < cap) × LongerList len cap more size align)

-- the capacities of a list that grows by so many nodes at a time: 0, and then powers of two, no less than that
abbrev pub IsDoubled : (many cap : ℕ) → Type 0
IsDoubled many cap = (cap ≡ 0) ⊎ ((many ≤ cap) × (power : ℕ) × (cap ≡ 2 ^ power))
