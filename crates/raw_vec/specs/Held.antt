-- What the storage of values needs of its arena, and the values there.
use Rattle.std.specs.Prelude.{◌≡◌, ℕ, ◌*◌, ◌-◌, ◌^◌, ◌≤◌, List}
use Rattle.arena_chunks.specs.Memory.{Memory}
use Rattle.arena_store.specs.declared.block.Block.{Block}
use Rattle.arena_items.specs.declared.item.Item.{Ghosts}
use Rattle.arena_items.specs.Values.{IsHeld, bytes_of, elements}
use Rattle.raw_vec.specs.declared.raw.RawVec.{RawVec}

-- The handle is well formed: its block has the layout of its capacity and is readable, and its length is at most its
-- capacity. For values of no bytes the capacity is 2 ^ 32 - 1.
pub record IsRawIn {T : Type 0} (item : Ghosts T) (m : Memory) (r : RawVec T) : Type 0 where
  pub place : IsHeld (r.cap * item.SIZE) item.ALIGN m.state r.block
  pub within : r.len ≤ r.cap
  pub no_bytes : item.SIZE ≡ 0 → r.cap ≡ 2 ^ 32 - 1

-- the first n values of its block
abbrev pub raw_values : {T : Type 0} → Ghosts T → Memory → RawVec T → ℕ → List T
raw_values item m r n = elements item.SIZE item.decoded n (bytes_of m r.block)

-- the vector's list
abbrev pub raw_list : {T : Type 0} → Ghosts T → Memory → RawVec T → List T
raw_list item m r = raw_values item m r r.len

-- the block of a vector without storage
abbrev pub empty_block : ℕ → Block
empty_block align = record { generation = 0; addr = align; size = 0; align = align }
