-- How a text's capacity grows.
use Rattle.std.specs.Prelude.{ℕ, ◌+◌, ◌-◌, ◌*◌, ◌^◌, ◌<◌, ◌≤◌, nat_le, max, if◌then◌else◌}
use Rattle.arena_items.specs.declared.room.Growth.{Growth}
use Rattle.arena_items.specs.declared.room.Growth.TheVariants.{Stays, GrowsTo, Overflows}

-- Room for what is required, if it is at most 2 ^ 63 - 1 bytes: nothing is done if there is room, and otherwise the
-- capacity becomes the wanted one.
unfoldable pub growth_to : ℕ → ℕ → ℕ → Growth
growth_to cap required wanted = if nat_le required cap then Stays else
    (if nat_le required (2 ^ 63 - 1) then GrowsTo wanted else Overflows)

-- the capacity plus the greatest of what is added, the capacity and 8; or what is required if that exceeds 2 ^ 63 - 1
unfoldable pub amortised : ℕ → ℕ → ℕ → ℕ
amortised cap len additional = let more = cap + max additional (max cap 8) in
    if nat_le more (2 ^ 63 - 1) then more else len + additional

-- the growth for more bytes after the first `len`
abbrev pub amortised_growth : ℕ → ℕ → ℕ → Growth
amortised_growth cap len additional = growth_to cap (len + additional) (amortised cap len additional)

-- the growth of a new text, to exactly this many bytes
abbrev pub new_growth : ℕ → Growth
new_growth room = growth_to 0 room room

-- how many bytes a growth asks for
abbrev pub asked_by : Growth → ℕ
asked_by Stays = 0
asked_by (GrowsTo more) = more
asked_by Overflows = 0

-- a capacity of at most twice the bytes plus 8
abbrev pub IsRoomFor : ℕ → ℕ → Type 0
IsRoomFor len cap = cap ≤ 2 * len + 8

-- What a growth says of the numbers. It stays only if there is room. It grows to more room than there was, which is
-- enough and has a layout. It overflows only if there is no room.
abbrev pub Suffices : ℕ → ℕ → Growth → Type 0
Suffices cap required Stays = required ≤ cap
Suffices cap required (GrowsTo more) = (cap < more) × (required ≤ more) × (more < 2 ^ 63)
Suffices cap required Overflows = cap < required

-- a growth to more room than there is, which has a layout
abbrev pub IsMore : ℕ → Growth → Type 0
IsMore cap Stays = Unit {0}
IsMore cap (GrowsTo more) = (cap < more) × (more < 2 ^ 63)
IsMore cap Overflows = Unit {0}
