-- Where the bytes of a list are stored.
use Rattle.std.specs.Prelude.{ℕ, ◌<◌, List, length}
use Rattle.short_bytes.specs.declared.bytes.Held.{Held}
use Rattle.short_bytes.specs.declared.bytes.Held.TheVariants.{Short, Long}

abbrev pub bytes_of : Held → List ℕ
bytes_of (Short bytes) = bytes
bytes_of (Long items) = items.value.items

-- only more than 14 bytes are in memory of their own
abbrev pub IsHeld : Held → Type 0
IsHeld (Short bytes) = Unit {0}
IsHeld (Long items) = 14 < length items.value.items
