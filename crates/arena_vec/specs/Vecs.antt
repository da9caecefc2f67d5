-- Vectors as lists.
use Rattle.std.specs.Prelude.{◌≡◌, ℕ, ◌<◌, ◌^◌, List, ◌++◌, take, drop}
use Rattle.std.specs.Int.{w32, to_le_bytes, from_le_bytes}
use Rattle.arena_chunks.specs.Memory.{Memory}
use Rattle.arena_items.specs.declared.item.Item.{Ghosts}
use Rattle.arena_items.specs.ByteForms.{IsBlockValue, block_bytes, block_of}
use Rattle.arena_items.specs.laws.HandleLaws.{block_back}
use Rattle.arena_items.specs.laws.NumberLaws.{bytes_back}
use Rattle.raw_vec.specs.Held.{IsRawIn, raw_list}
use Rattle.arena_vec.specs.declared.vec.Vec.{Vec}

-- A handle is well formed in this arena; and the list that it has there.
abbrev pub IsVecIn : {T : Type 0} → Ghosts T → Memory → Vec T → Type 0
IsVecIn item m v = IsRawIn item m v.raw

abbrev pub vec_list : {T : Type 0} → Ghosts T → Memory → Vec T → List T
vec_list item m v = raw_list item m v.raw

-- ---- The byte form of a handle

-- its numbers fit
pub record IsHandleValue {T : Type 0} (v : Vec T) : Type 0 where
  pub block : IsBlockValue v.raw.block
  pub len : v.raw.len < 2 ^ 32
  pub cap : v.raw.cap < 2 ^ 32

-- the block, the length and the capacity
abbrev pub handle_bytes : {T : Type 0} → Vec T → List ℕ
handle_bytes v = block_bytes v.raw.block ++ (to_le_bytes w32 v.raw.len ++ to_le_bytes w32 v.raw.cap)

abbrev pub handle_of : {T : Type 0} → List ℕ → Vec T
handle_of bs = record {
  raw = record {
    block = block_of (take 32 bs);
    len = from_le_bytes w32 (take 4 (drop 32 bs));
    cap = from_le_bytes w32 (drop 4 (drop 32 bs));
    of = record {};
  };
}

-- Numbers that fit are decoded as they were.
pub handle_back : {T : Type 0} (v : Vec T) → IsHandleValue v → handle_of (handle_bytes v) ≡ v
handle_back v h = λ i. record {
  raw = record {
    block = block_back v.raw.block h.block i;
    len = bytes_back 3 v.raw.len h.len i;
    cap = bytes_back 3 v.raw.cap h.cap i;
    of = v.raw.of;
  };
}
