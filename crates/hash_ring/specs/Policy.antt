-- The number of slots of a map's table, and the two numbers, spare and credit, that bound its bytes.
use Rattle.std.specs.Prelude.{ℕ, ◌+◌, ◌-◌, ◌*◌, ◌/◌, ◌^◌, ◌==◌, min, max, if◌then◌else◌}
use Rattle.std.specs.Int.{IsNextPowerOfTwo}

-- the most pairs that a map can have
abbrev pub most_pairs : ℕ
most_pairs = 2 ^ 32 - 1

-- the alignment of a table: the greatest of 8 and those of keys and values
abbrev pub table_align : ℕ → ℕ → ℕ
table_align key value = max 8 (max key value)

-- the size of a slot with its mark, in bytes
abbrev pub slot_size : ℕ → ℕ → ℕ
slot_size key value = key + value + 1

-- the maximum number of pairs in a table of this many slots
abbrev pub limit : ℕ → ℕ
limit slots = min (slots / 2) most_pairs

-- the number of slots of a new table for this many pairs, and of the table that replaces one of this many slots
abbrev pub IsSlotsFor : ℕ → ℕ → Type 0
IsSlotsFor pairs slots = IsNextPowerOfTwo (max (2 * pairs) 8) slots

abbrev pub next_slots : ℕ → ℕ
next_slots slots = if slots == 0 then 16 else 2 * slots

-- the bytes that one pair may cost: eight times its size and the table's alignment
abbrev pub unit : ℕ → ℕ → ℕ → ℕ → ℕ
unit key value key_align value_align = 8 * (key + value + table_align key_align value_align)

-- the number of new keys that fit before another table is placed
abbrev pub spare : ℕ → ℕ → ℕ
spare slots len = limit slots - len

-- the bytes saved up for the next table: a unit for each pair beyond slots / 4 + 1
abbrev pub credit : ℕ → ℕ → ℕ → ℕ
credit u slots len = u * (len - (slots / 4 + 1))
