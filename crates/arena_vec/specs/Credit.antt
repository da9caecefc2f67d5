-- What growth costs: the bytes of the block that it asks for, and the bytes that a vector has saved up for it.
use Rattle.std.specs.Prelude.{ℕ, ◌*◌, ◌-◌}
use Rattle.arena_items.specs.declared.room.Growth.{Growth}
use Rattle.arena_items.specs.declared.room.Growth.TheVariants.{Stays, GrowsTo, Overflows}

-- the bytes of the block that the arena is asked for
abbrev pub asked_by : ℕ → Growth → ℕ
asked_by size Stays = 0
asked_by size (GrowsTo more) = more * size
asked_by size Overflows = 0

-- what is saved up for the next block: two values' bytes for each value beyond half of the capacity
abbrev pub credit_of : ℕ → ℕ → ℕ → ℕ
credit_of size len cap = 2 * size * (2 * len - cap)
