-- What an insert does with its table, and the numbers of slots and of bytes.
use Rattle.std.specs.Prelude.{ℕ, ◌==◌, ◌||◌, Bool, nat_lt, if◌then◌else◌}
use Rattle.arena_items.specs.declared.room.Growth.{Growth}
use Rattle.arena_items.specs.declared.room.Growth.TheVariants.{Stays, GrowsTo, Overflows}
pub use Rattle.hash_ring.specs.Policy.{most_pairs, table_align, slot_size, limit, IsSlotsFor, next_slots, unit, spare, credit}

-- What an insert does with a table: nothing if the key is there or there is room; otherwise it places the next table,
-- or overflows if there are as many pairs as a map can have.
abbrev pub growth_for : Bool → ℕ → ℕ → Growth
growth_for is_there slots len =
    if is_there || nat_lt len (limit slots) then Stays else (if len == most_pairs then Overflows else GrowsTo (next_slots slots))
