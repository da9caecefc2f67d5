-- How a region is laid out in its block.
use Rattle.std.specs.Prelude.{◌≡◌, ℕ, ◌+◌, ◌^◌, ◌<◌, ◌≤◌, Option, Some, None, List, ◌++◌, length, take, replicate}
use Rattle.arena_region.specs.Bytes.{Bytes, bytes}
use Rattle.std.specs.declared.alloc.Global.{Global}
use Rattle.arena_region.specs.declared.store.Base.{Base}
use Rattle.arena_region.specs.declared.store.Deed.{Deed}
use Rattle.arena_region.specs.declared.region.Region.TheInside.{Inside}

-- the block's bytes, where uninitialised memory counts as zeros
abbrev pub block_bytes : Inside → List ℕ
block_bytes r = replicate r.low 0 ++ r.store.ready

abbrev pub bytes_of : Inside → Bytes
bytes_of r = bytes (take r.len (block_bytes r)) r.low

-- there is the right to free the block, or no block
abbrev pub IsReturned : Base → ℕ → Global → Option (Deed Global) → Type 0
IsReturned base size alloc (Some d) = (d.at ≡ base.ptr) × (d.len ≡ size) × (d.alloc ≡ alloc)
IsReturned base size alloc None = size ≡ 0

-- the invariant of the fields
pub record IsLaid (r : Inside) : Type 0 where
  pub at : r.store.at ≡ r.base.ptr
  pub room : r.store.room ≡ r.low
  pub size : r.low + length r.store.ready ≡ r.size
  pub low : r.low ≤ r.len
  pub len : r.len ≤ r.size
  pub deed : IsReturned r.base r.size r.alloc r.deed
  pub fits : r.size < 2 ^ 63
