-- The place of a block, and the chunks that are asked for if there is none.
use Rattle.std.specs.Prelude.{ℕ, zero, suc, ◌+◌, ◌-◌, ◌*◌, ◌/◌, ◌^◌, max, nat_le, nat_lt, if◌then◌else◌, Option, Some, None, List, [], ◌∷◌, map, take}
use Rattle.std.specs.Option.{option_and_then}
use Rattle.std.specs.List.{filter_map}
use Rattle.arena_rules.specs.Rounding.{down, up, is_layout}
use Rattle.arena_rules.specs.State.{State, start_of, cursor_of, newest_size, floor_of}

-- The bump step. A start is never 0, so a size greater than the cursor has no place.
abbrev pub place_below : ℕ → ℕ → ℕ → ℕ → ℕ → Option ℕ
place_below start cursor size align min_align =
    if nat_le start (down (cursor - size) (max align min_align)) then Some (down (cursor - size) (max align min_align)) else None

abbrev pub place : State → ℕ → ℕ → Option ℕ
place state size align = place_below (start_of state.chunks) (cursor_of state.chunks) size align state.min_align

-- p doubled until it is at least n, at most this many times
unfoldable pub doubled : ℕ → ℕ → ℕ → ℕ
doubled zero p n = p
doubled (suc turns) p n = if nat_le n p then p else doubled turns (2 * p) n

-- the least power of two at or above n, where n has 64 bits
unfoldable pub power_at_least : ℕ → ℕ
power_at_least n = doubled 64 1 n

-- the size of a chunk for n bytes: 64 less than a power of two, or than whole pages
abbrev pub rounded_size : ℕ → Option ℕ
rounded_size n =
    if nat_lt n 4096 then Some (power_at_least (n + 64) - 64)
    else (if nat_le n (2 ^ 63 - 64) then Some (up (n + 64) 4096 - 64) else None)

-- the alignment of a chunk for a block of this alignment
abbrev pub chunk_align : ℕ → ℕ
chunk_align align = max align 16

-- the base of a chunk above this floor
abbrev pub next_base : ℕ → ℕ → ℕ
next_base floor align = up floor (chunk_align align)

-- the data size for a tried size and a layout
unfoldable pub size_for : ℕ → ℕ → ℕ → Option ℕ
size_for tried size align =
    option_and_then (λ bytes. if is_layout (bytes + 48) (chunk_align align) then Some bytes else None)
    (rounded_size (max tried (up size (chunk_align align))))

-- n and then each half, rounded down, down to the least size, at most this many
unfoldable pub halves : ℕ → ℕ → ℕ → List ℕ
halves zero n least = []
halves (suc turns) n least = if nat_le least n then n ∷ halves turns (n / 2) least else []

-- the least size that is tried for a block
abbrev pub least_size : ℕ → ℕ
least_size size = max size 16320

-- the base and data size for a tried size, if such a chunk ends below the last address
unfoldable pub possible : ℕ → ℕ → ℕ → ℕ → Option (ℕ × ℕ)
possible base size align tried =
    option_and_then {U = ℕ × ℕ} (λ bytes. if nat_le (base + bytes + 48) (2 ^ 64 - 1) then Some (base, bytes) else None)
    (size_for tried size align)

-- the possible chunks of this base for the tried sizes from the first one on
unfoldable pub entries : ℕ → ℕ → ℕ → ℕ → ℕ → List (ℕ × ℕ)
entries base size align first least = filter_map (possible base size align) (halves 64 first least)

-- The chunks asked for one after another, until one is granted, above a floor and after a newest chunk of this size.
unfoldable pub asked_above : ℕ → ℕ → ℕ → ℕ → List (ℕ × ℕ)
asked_above floor newest size align =
    entries (next_base floor align) size align (max (least_size size) (2 * newest)) (least_size size)

unfoldable pub asked : State → ℕ → ℕ → List (ℕ × ℕ)
asked state size align =
    if state.is_growing then asked_above (floor_of state.chunks) (newest_size state.chunks) size align else []

-- the requests that ask for these chunks
unfoldable pub requests : ℕ → List (ℕ × ℕ) → List (ℕ × ℕ)
requests align chunks = map (λ (e : ℕ × ℕ). (e.1, chunk_align align)) chunks

-- the requests of an allocation with k refusals: none if there is a place, otherwise those refused and the one granted
abbrev pub requests_at : Option ℕ → ℕ → ℕ → List (ℕ × ℕ) → List (ℕ × ℕ)
requests_at (Some p) align k chunks = []
requests_at None align k chunks = requests align (take (k + 1) chunks)

abbrev pub alloc_requests : State → ℕ → ℕ → ℕ → List (ℕ × ℕ)
alloc_requests state size align k = requests_at (place state size align) align k (asked state size align)
