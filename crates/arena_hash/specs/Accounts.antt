-- What maps cost: the bytes that calls bring into use, in terms of a map's two numbers, spare and credit.
use Rattle.std.specs.Prelude.{◌≡◌, ℕ, ◌+◌, ◌-◌, ◌*◌, ◌^◌, ◌<◌, ◌≤◌, Bool, false, IsTrue, Result, IsOk, OnOk, OnErr}
use Rattle.arena_rules.specs.State.{used_bytes}
use Rattle.arena_chunks.specs.Source.{View}
use Rattle.arena_chunks.specs.BlockCalls.{PlacesBlock}
use Rattle.arena_store.specs.declared.block.Block.{Block}
use Rattle.arena_items.specs.Room.{RoomAnswer, SamePlaces, Took}
use Rattle.arena_items.specs.declared.room.AllocError.{AllocError}
use Rattle.hash_ring.specs.Policy.{table_align, unit, spare, credit}
use Rattle.arena_table.specs.Contents.{Kind}
use Rattle.arena_hash.specs.declared.map.HashMap.{HashMap}

-- the bytes that one pair may cost, and a map's two numbers
abbrev pub unit_of : {K V S : Type 0} → Kind K V S → ℕ
unit_of k = unit k.keys.SIZE k.values.SIZE k.keys.ALIGN k.values.ALIGN

abbrev pub spare_of : {K V S : Type 0} → HashMap K V S → ℕ
spare_of m = spare m.table.slots m.len

abbrev pub credit_of : {K V S : Type 0} → Kind K V S → HashMap K V S → ℕ
credit_of k m = credit (unit_of k) m.table.slots m.len

abbrev pub used : View → ℕ
used a = used_bytes a.memory.state

-- A call took no bytes and moved no cursor; the credit didn't rise, and the spare didn't fall.
pub record IsFree {K V S : Type 0} (k : Kind K V S) (old new : View) (m w : HashMap K V S) : Type 0 where
  pub places : SamePlaces old new
  pub bytes : used new ≡ used old
  pub credit : credit_of k w ≤ credit_of k m
  pub spare : spare_of m ≤ spare_of w

-- A call took no bytes and moved no cursor, raised credit by at most a unit and lowered spare by at most one.
pub record IsPaid {K V S : Type 0} (k : Kind K V S) (old new : View) (m w : HashMap K V S) : Type 0 where
  pub places : SamePlaces old new
  pub bytes : used new ≡ used old
  pub credit : credit_of k w ≤ credit_of k m + unit_of k
  pub spare : spare_of m ≤ spare_of w + 1

-- A call asked the arena for one layout, of at most this many bytes with its padding, and returns the arena's result.
pub record AsksOnce {X K V S : Type 0} (k : Kind K V S) (old new : View) (block : X → Block) (most : ℕ)
    (result : Result X AllocError) : Type 0 where
  pub size : ℕ
  pub bounded : size ≤ 2 ^ 62
  pub within : size + (table_align k.keys.ALIGN k.values.ALIGN - 1) ≤ most
  pub took : Took new (λ between. RoomAnswer block result (PlacesBlock old between size (table_align k.keys.ALIGN k.values.ALIGN)))

-- What `insert` costs, by whether the key is there.
pub record InsertCosts {X K V S : Type 0} (k : Kind K V S) (old new : View) (m : HashMap K V S) (is_there : Bool) (w : HashMap K V S)
    (result : Result X AllocError) : Type 0 where
  pub there : IsTrue is_there → IsOk result × IsFree k old new m w
  pub room : is_there ≡ false → 0 < spare_of m → IsOk result × IsPaid k old new m w
  pub grows : is_there ≡ false → spare_of m ≡ 0 → OnOk result (used new + credit_of k w ≤ used old + (2 * unit_of k + credit_of k m))
  pub asks : is_there ≡ false → spare_of m ≡ 0 → m.len < 2 ^ 32 - 1
      → AsksOnce k old new (λ _. w.table.block) (2 * unit_of k + credit_of k m) result
  pub refused : OnErr result ((spare_of w ≡ spare_of m) × (credit_of k w ≡ credit_of k m))
