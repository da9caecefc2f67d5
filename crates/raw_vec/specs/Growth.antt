-- How a vector's capacity grows.
use Rattle.std.specs.Prelude.{ℕ, ◌*◌, ◌-◌, ◌^◌, ◌<◌, ◌≤◌, Bool, true, false, ◌&&◌, nat_le, max, if◌then◌else◌, ◌==◌}
use Rattle.arena_items.specs.declared.room.Growth.{Growth}
use Rattle.arena_items.specs.declared.room.Growth.TheVariants.{Stays, GrowsTo, Overflows}

-- n values of this size may be in a vector: their number fits in 32 bits, and so does that of their bytes.
unfoldable pub fits : ℕ → ℕ → Bool
fits size n = nat_le n (2 ^ 32 - 1) && nat_le (n * size) (2 ^ 32 - 1)

-- twice the capacity, or what is required if that is more or if twice the capacity doesn't fit
unfoldable pub amortised : ℕ → ℕ → ℕ → ℕ
amortised size cap required = if fits size (max (2 * cap) required) then max (2 * cap) required else required

-- Room for what is required, if it fits: nothing is done if there is room, and otherwise the capacity becomes the
-- wanted one.
unfoldable pub growth_to : ℕ → ℕ → ℕ → ℕ → Growth
growth_to size cap required wanted = if nat_le required cap then Stays else
    (if fits size required then GrowsTo wanted else Overflows)

-- a reserve for amortised growth, and an exact one
abbrev pub amortised_growth : ℕ → ℕ → ℕ → Growth
amortised_growth size cap required = growth_to size cap required (amortised size cap required)

abbrev pub exact_growth : ℕ → ℕ → ℕ → Growth
exact_growth size cap required = growth_to size cap required required

-- a reserve of either kind
abbrev pub growth_by : Bool → ℕ → ℕ → ℕ → Growth
growth_by true size cap required = exact_growth size cap required
growth_by false size cap required = amortised_growth size cap required

-- the capacity with no block
abbrev pub empty_capacity : ℕ → ℕ
empty_capacity size = if size == 0 then 2 ^ 32 - 1 else 0

-- the growth of a new vector
abbrev pub new_growth : ℕ → ℕ → Growth
new_growth size required = exact_growth size (empty_capacity size) required

-- What a growth says of the numbers. It stays only if there is room. It grows to more room than there was, which is
-- enough, and whose numbers of values and of bytes fit in 32 bits. It overflows only if there is no room.
abbrev pub Suffices : ℕ → ℕ → ℕ → Growth → Type 0
Suffices size cap required Stays = required ≤ cap
Suffices size cap required (GrowsTo more) = (cap < more) × (required ≤ more) × (more < 2 ^ 32)
    × (more * size < 2 ^ 32)
Suffices size cap required Overflows = cap < required

-- a growth to more room than there is, whose number of values and of bytes fit in 32 bits
abbrev pub IsMore : ℕ → ℕ → Growth → Type 0
IsMore size cap Stays = Unit {0}
IsMore size cap (GrowsTo more) = (cap < more) × (more < 2 ^ 32) × (more * size < 2 ^ 32)
IsMore size cap Overflows = Unit {0}
