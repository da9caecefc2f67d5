-- What calls on a map do.
use Rattle.std.specs.Prelude.{◌≡◌, ℕ, ◌+◌, ◌-◌, ◌*◌, ◌^◌, ◌<◌, ◌≤◌, Bool, not, is_some, [], ◌∷◌, Option, Result, Err, IfOk, OnOk, OnErr}
use Rattle.std.specs.Prelude.{IsOkAnd, if◌then◌else◌}
use Rattle.arena_chunks.specs.Memory.{Memory}
use Rattle.arena_chunks.specs.Source.{View}
use Rattle.arena_chunks.specs.BlockCalls.{PlacesBlock}
use Rattle.arena_chunks.specs.Frame.{Frame}
use Rattle.arena_items.specs.Room.{MakesRoom, SamePlaces, RoomAnswer, Took}
use Rattle.arena_items.specs.declared.room.AllocError.{AllocError}
use Rattle.arena_items.specs.declared.room.AllocError.TheVariants.{CapacityOverflow}
use Rattle.hash_ring.specs.Finite.{Finite, empty, has, value_of, with_pair, without}
use Rattle.hash_ring.specs.Policy.{table_align, slot_size, IsSlotsFor}
use Rattle.arena_table.specs.Contents.{Kind, content_in}
use Rattle.arena_hash.specs.Accounts.{unit_of, spare_of, credit_of, used, IsFree, AsksOnce, InsertCosts}
use Rattle.arena_hash.specs.Maps.{IsMapIn, map_in}
use Rattle.arena_hash.specs.Policy.{growth_for}
use Rattle.arena_hash.specs.declared.map.HashMap.{HashMap}

-- A call that takes no memory turns the handle into this map, in the same table. No cursor moves, and nothing is
-- requested or counted.
pub record Becomes {K V S : Type 0} (k : Kind K V S) (old new : View) (m : HashMap K V S) (is : Finite K V) (w : HashMap K V S) : Type 0
  where
    pub held : IsMapIn k new.memory w
    pub map_is : map_in k new.memory w ≡ is
    pub table : w.table ≡ m.table
    pub hasher : w.hasher ≡ m.hasher
    pub places : SamePlaces old new
    pub costs : IsFree k old new m w
    pub frame : Frame old.memory new.memory (m.table.block ∷ []) (m.table.block ∷ [])

-- A call that inserts a pair and reports the previous value, or is refused and leaves the map and the memory unchanged.
-- The arena is asked for the next table exactly if the key is new, there is no room, and the map doesn't have the most
-- pairs.
pub record Puts {X K V S : Type 0} (k : Kind K V S) (old new : View) (m : HashMap K V S) (key : K) (value : V)
    (tells : Option V → X → Type 0) (w : HashMap K V S) (result : Result X AllocError) : Type 0 where
  pub made : MakesRoom (slot_size k.keys.SIZE k.values.SIZE) (table_align k.keys.ALIGN k.values.ALIGN) old new m.table.block 0
      (growth_for (has (map_in k old.memory m) (content_in k.key old.memory key)) m.table.slots m.len) (λ _. w.table.block) result
  pub held : IsMapIn k new.memory w
  pub map_is : OnOk result (map_in k new.memory w ≡ with_pair (map_in k old.memory m) (content_in k.key old.memory key) key value)
  pub says : IfOk result (tells (value_of (map_in k old.memory m (content_in k.key old.memory key))))
  pub len : OnOk result (w.len ≡ (if has (map_in k old.memory m) (content_in k.key old.memory key) then m.len else m.len + 1))
  pub err : OnErr result ((w ≡ m) × (new.memory ≡ old.memory))
  pub costs : InsertCosts k old new m (has (map_in k old.memory m) (content_in k.key old.memory key)) w result
  pub hasher : w.hasher ≡ m.hasher
  pub frame : Frame old.memory new.memory (m.table.block ∷ []) (w.table.block ∷ [])

-- A call that removes a key, and reports its value.
pub record TakesOut {X K V S : Type 0} (k : Kind K V S) (old new : View) (m : HashMap K V S) (key : K)
    (tells : Option V → X → Type 0) (w : HashMap K V S) (result : X) : Type 0 where
  pub becomes : Becomes k old new m (without (map_in k old.memory m) (content_in k.key old.memory key)) w
  pub says : tells (value_of (map_in k old.memory m (content_in k.key old.memory key))) result
  pub len : w.len ≡ (if has (map_in k old.memory m) (content_in k.key old.memory key) then m.len - 1 else m.len)

-- An empty map without a table: it is held in every arena.
pub record IsNew {K V S : Type 0} (k : Kind K V S) (hasher : S) (m : HashMap K V S) : Type 0 where
  pub held : (memory : Memory) → IsMapIn k memory m
  pub map_is : (memory : Memory) → map_in k memory m ≡ empty
  pub len : m.len ≡ 0
  pub block : m.table.block.size ≡ 0
  pub spare : spare_of m ≡ 0
  pub credit : credit_of k m ≡ 0
  pub hasher_is : m.hasher ≡ hasher

-- A result that is the previous value, or none; one that says that there was no value; and one that says that there was
-- one.
abbrev pub is_value : {V : Type 0} → Option V → Option V → Type 0
is_value before answer = answer ≡ before

abbrev pub is_new : {V : Type 0} → Option V → Bool → Type 0
is_new before answer = answer ≡ not (is_some before)

abbrev pub was_there : {V : Type 0} → Option V → Bool → Type 0
was_there before answer = answer ≡ is_some before

-- A call that creates an empty map with room for a number of pairs: it places a table for them, and none for 0. The
-- arena is asked for that table's layout and no other, and its result is the call's.
pub record PlacesMap {X K V S : Type 0} (k : Kind K V S) (map : X → HashMap K V S) (old new : View) (pairs : ℕ)
    (result : Result X AllocError) : Type 0 where
  pub none : pairs ≡ 0 → (new ≡ old) × IsOkAnd result (λ x. IsNew k (map x).hasher (map x))
  pub overflows : 2 ^ 32 ≤ pairs → (new ≡ old) × (result ≡ Err CapacityOverflow)
  pub made : 0 < pairs → pairs < 2 ^ 32 → (n : ℕ) × IsSlotsFor pairs n × Took new (λ between.
      RoomAnswer (λ x. (map x).table.block) result (PlacesBlock old between
      (n * slot_size k.keys.SIZE k.values.SIZE) (table_align k.keys.ALIGN k.values.ALIGN)))
  pub asks : 0 < pairs → pairs < 2 ^ 32 → AsksOnce k old new (λ x. (map x).table.block) (unit_of k * pairs) result
  pub held : IfOk result (λ x. IsMapIn k new.memory (map x))
  pub map_is : IfOk result (λ x. map_in k new.memory (map x) ≡ empty)
  pub len : IfOk result (λ x. (map x).len ≡ 0)
  pub slots : 0 < pairs → IfOk result (λ x. IsSlotsFor pairs (map x).table.slots)
  pub spare : IfOk result (λ x. pairs ≤ spare_of (map x))
  pub credit : IfOk result (λ x. credit_of k (map x) ≡ 0)
  pub bytes : OnOk result (used new ≤ used old + unit_of k * pairs)
  pub err : OnErr result (new.memory ≡ old.memory)
  pub frame : IfOk result (λ x. Frame old.memory new.memory [] ((map x).table.block ∷ []))
