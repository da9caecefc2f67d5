-- Which chunk has an address.
use Rattle.std.specs.Prelude.{ℕ, Bool, ◌&&◌, nat_le, if◌then◌else◌, Option, Some, None, List, [], ◌∷◌, length}
use Rattle.arena_rules.specs.State.{Chunk, data_end}

-- the address is from the chunk's base to its data end
abbrev pub has_address : ℕ → Chunk → Bool
has_address addr chunk = nat_le chunk.base addr && nat_le addr (data_end chunk)

-- the number of the chunk that has the address, from 0 and oldest first; the list is newest first
abbrev pub chunk_number : ℕ → List Chunk → Option ℕ
chunk_number addr [] = None
chunk_number addr (newest ∷ older) = if has_address addr newest then Some (length older) else chunk_number addr older
