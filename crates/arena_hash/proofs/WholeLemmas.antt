-- Maps that are made.
use Rattle.std.proofs.lemmas.Bool.Decides.{nat_tests}
use Rattle.std.proofs.Common.{◌≡◌, ℕ, ◌*◌, ◌^◌, ◌<◌, ◌≤◌, [], ◌∷◌, replicate, refl, sym, subst, arith, None, Ok, Err}
use Rattle.arena_chunks.specs.Memory.{Memory}
use Rattle.arena_chunks.specs.Source.{View}
use Rattle.arena_chunks.specs.BlockCalls.{PlacesBlock}
use Rattle.arena_chunks.specs.Frame.{Frame}
use Rattle.arena_chunks.proofs.Layers.{empty_after, frame_reflexive}
use Rattle.arena_items.specs.Layout.{IsItemLayout}
use Rattle.arena_items.specs.Room.{RoomAnswer, Took}
use Rattle.arena_items.specs.Values.{bytes_of}
use Rattle.arena_items.specs.declared.room.AllocError.{AllocError}
use Rattle.hash_ring.specs.Policy.{slot_size, table_align, IsSlotsFor}
use Rattle.hash_ring.proofs.PolicyLemmas.{credit-none}
use Rattle.arena_table.specs.Contents.{Kind}
use Rattle.arena_table.specs.Tables.{slots_in, IsTableHandle}
use Rattle.arena_table.specs.declared.table.Table.{Table}
use Rattle.arena_table.proofs.FreeLemmas.{free-slots}
use Rattle.arena_hash.specs.Accounts.{unit_of}
use Rattle.arena_hash.specs.Changes.{IsNew, PlacesMap}
use Rattle.arena_hash.specs.declared.map.HashMap.{HashMap}
use Rattle.arena_hash.proofs.AccountLemmas.{took-refused, capacity-costs}
use Rattle.arena_hash.proofs.FreeLemmas.{free-map, free-is}

-- A handle without a table is an empty map in every arena.
pub new-map : {K V S : Type 0} (k : Kind K V S) (m : HashMap K V S) → ((memory : Memory) → IsTableHandle k.keys k.values memory m.table)
    → m.table.slots ≡ 0 → m.table.block.size ≡ 0 → m.len ≡ 0 → IsNew k m.hasher m
new-map k m handle none size len = record {
  held = λ memory. free-map k memory m (free memory) (handle memory) len;
  map_is = λ memory. free-is k memory m (free memory);
  len = len;
  block = size;
  spare = omega (arith, none, len);
  credit = rw len (credit-none (unit_of k) m.table.slots);
  hasher_is = refl;
}
  where
    free : (memory : Memory) → slots_in k.keys k.values memory m.table ≡ replicate m.table.slots None
    free memory = free-slots k.keys k.values m.table.slots (bytes_of memory m.table.block) (rw none refl)

module _ {K V S : Type 0} (k : Kind K V S) (keys : IsItemLayout k.keys.SIZE k.keys.ALIGN)
    (values : IsItemLayout k.values.SIZE k.values.ALIGN)
    (keys_small : k.keys.SIZE ≤ 2 ^ 24) (values_small : k.values.SIZE ≤ 2 ^ 24) where
  -- Room for no pairs: nothing is placed.
  pub places-none : (old : View) (pairs : ℕ) (hasher : S) (m : HashMap K V S) → pairs ≡ 0 → IsNew k hasher m
      → PlacesMap {X = HashMap K V S} k (λ m. m) old old pairs (Ok m)
  places-none old pairs hasher m zero new = record {
    none = λ is. (refl, subst (λ h. IsNew k h m) (sym new.hasher_is) new);
    overflows = λ many. absurd (omega (arith, many, zero));
    made = λ some few. absurd (omega (arith, some, zero));
    asks = λ some few. absurd (omega (arith, some, zero));
    held = new.held old.memory;
    map_is = new.map_is old.memory;
    len = new.len;
    slots = λ some. absurd (omega (arith, some, zero));
    spare = omega (arith, zero);
    credit = new.credit;
    bytes = omega arith;
    err = tt;
    frame = (empty_after old.memory old.memory [] [] [] m.table.block new.block).1 (frame_reflexive old.memory []);
  }

  module _ (old new : View) (pairs slots : ℕ) (some : 0 < pairs) (few : pairs < 2 ^ 32) (is : IsSlotsFor pairs slots) where
    -- A table is placed,
    pub places-table : (m : HashMap K V S) → m.table.slots ≡ slots → m.len ≡ 0
        → Took new (λ between. RoomAnswer {X = Table K V} (λ t. t.block) (Ok m.table)
        (PlacesBlock old between (slots * slot_size k.keys.SIZE k.values.SIZE) (table_align k.keys.ALIGN k.values.ALIGN)))
        → IsTableHandle k.keys k.values new.memory m.table → slots_in k.keys k.values new.memory m.table ≡ replicate slots None
        → Frame old.memory new.memory [] (m.table.block ∷ []) → PlacesMap {X = HashMap K V S} k (λ m. m) old new pairs (Ok m)
    places-table m same len took handle free frame =
        let made : Took new (λ between. RoomAnswer {X = HashMap K V S} (λ m. m.table.block) (Ok m)
        (PlacesBlock old between (slots * slot_size k.keys.SIZE k.values.SIZE) (table_align k.keys.ALIGN k.values.ALIGN))) =
        record { between = took.between; took = took.took; places = took.places } in
        let costs = capacity-costs k keys values keys_small values_small {X = HashMap K V S} old new (λ m. m.table.block) pairs slots
        (Ok m) some few is made in
        let free_all = subst (λ n. slots_in k.keys k.values new.memory m.table ≡ replicate n None) (sym same) free in
        record {
          none = λ is. absurd (omega (arith, some, is));
          overflows = λ many. absurd (omega (arith, many, few));
          made = λ h l. (slots, is, made);
          asks = λ h l. costs.0;
          held = free-map k new.memory m free_all handle len;
          map_is = free-is k new.memory m free_all;
          len = len;
          slots = λ h. rw same is;
          spare = rw (same, len) (omega (arith, is.1));
          credit = rw len (credit-none (unit_of k) m.table.slots);
          bytes = costs.1;
          err = tt;
          frame = frame;
        }

    -- or refused.
    pub places-refused : (e : AllocError) → Took new (λ between. RoomAnswer {X = Table K V} (λ t. t.block) (Err e)
        (PlacesBlock old between (slots * slot_size k.keys.SIZE k.values.SIZE) (table_align k.keys.ALIGN k.values.ALIGN)))
        → new.memory ≡ old.memory → PlacesMap {X = HashMap K V S} k (λ m. m) old new pairs (Err e)
    places-refused e took same = grind (arith, nat_tests, took-refused, capacity-costs)

-- A set is created as its map is.
pub places-as : {K V S X Y : Type 0} (k : Kind K V S) (f : X → HashMap K V S) (h : Y
    → HashMap K V S) (old new : View) (pairs : ℕ) (x : X) (y : Y)
    → h y ≡ f x → PlacesMap k f old new pairs (Ok x) → PlacesMap k h old new pairs (Ok y)
places-as k f h old new pairs x y same p = grind (arith, nat_tests)

pub refused-as : {K V S X Y : Type 0} (k : Kind K V S) (f : X → HashMap K V S) (h : Y
    → HashMap K V S) (old new : View) (pairs : ℕ) (e : AllocError)
    → PlacesMap k f old new pairs (Err e) → PlacesMap k h old new pairs (Err e)
refused-as k f h old new pairs e p = grind (arith, nat_tests, took-refused)
