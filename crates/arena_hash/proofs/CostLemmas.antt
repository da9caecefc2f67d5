-- What calls on a map cost together.
use Rattle.std.proofs.Common.{◌≡◌, ℕ, ◌+◌, ◌-◌, ◌*◌, ◌^◌, ◌<◌, ◌≤◌, ◌⊎◌, Bool, true, false, refl, Ok, Err, arith}
use Rattle.std.specs.Prelude.{nat_lt, ◌==◌, OnOk, OnErr, Result, if◌then◌else◌}
use Rattle.std.proofs.lemmas.Bool.{cases_lt}
use Rattle.std.proofs.lemmas.Bool.Decides.{nat_tests}
use Rattle.arena_chunks.specs.Source.{View}
use Rattle.arena_store.specs.declared.block.Block.{Block}
use Rattle.arena_chunks.proofs.Layers.{asks_same}
use Rattle.arena_items.specs.Costs.{Costs, Covers, farthest}
use Rattle.arena_items.specs.Layout.{IsItemLayout}
use Rattle.arena_items.specs.laws.LayoutLaws.{IsAlign-bounds}
use Rattle.arena_items.specs.Room.{MakesRoom}
use Rattle.arena_items.specs.Values.{IsHeld}
use Rattle.arena_items.specs.declared.room.AllocError.{AllocError}
use Rattle.arena_items.specs.declared.room.AllocError.TheVariants.{CapacityOverflow}
use Rattle.arena_items.specs.declared.room.Growth.TheVariants.{Stays, GrowsTo, Overflows}
use Rattle.arena_items.proofs.Layers.{costs_nothing, room_costs}
use Rattle.hash_ring.specs.Policy.{limit, most_pairs, next_slots, slot_size, table_align}
use Rattle.hash_ring.specs.Marks.{IsRing}
use Rattle.hash_ring.proofs.PolicyLemmas.{unit-covers, table-small, next-ring, growth-bytes}
use Rattle.arena_table.specs.Contents.{Kind}
use Rattle.arena_table.proofs.LayoutLemmas.{table-align, table-layout}
use Rattle.arena_hash.specs.Accounts.{unit_of, credit_of, used, InsertCosts}
use Rattle.arena_hash.specs.Policy.{growth_for}
use Rattle.arena_hash.specs.declared.map.HashMap.{HashMap}
use Rattle.arena_hash.proofs.AccountLemmas.{answer-map}

-- ---- Bytes and credit

-- an insert raises the bytes used and the credit together by at most two units
pub insert-most : {X K V S : Type 0} (k : Kind K V S) (old new : View) (m w : HashMap K V S) (is_there : Bool)
    (result : Result X AllocError) → InsertCosts k old new m is_there w result
    → OnErr result ((w ≡ m) × (new.memory ≡ old.memory))
    → used new + credit_of k w ≤ used old + (credit_of k m + 2 * unit_of k)
insert-most k old new m w is_there result costs err = grind (arith, nat_tests, cases_lt)

-- ---- All that an insert costs

-- A call that did nothing asks for nothing, and is no refusal of the arena's.
overflow-costs : {X : Type 0} (bytes before : ℕ) (old new : View) (result : Result X AllocError) → result ≡ Err CapacityOverflow
    → new ≡ old → Costs farthest bytes before 0 old new result
overflow-costs bytes before old new result is same = grind (arith, nat_tests, asks_same)

module _ {K V S : Type 0} (k : Kind K V S) (keys : IsItemLayout k.keys.SIZE k.keys.ALIGN)
    (values : IsItemLayout k.values.SIZE k.values.ALIGN)
    (keys_small : k.keys.SIZE ≤ 2 ^ 24) (values_small : k.values.SIZE ≤ 2 ^ 24) where
  abbrev size : ℕ
  size = slot_size k.keys.SIZE k.values.SIZE

  abbrev align : ℕ
  align = table_align k.keys.ALIGN k.values.ALIGN

  module _ {X : Type 0} (old new : View) (m w : HashMap K V S) (one : old.memory.state.min_align ≡ 1)
      (ring : (m.table.slots ≡ 0) ⊎ IsRing m.table.slots) (within : m.len ≤ limit m.table.slots) where
    -- The next table is placed as a new block, as for a collection without a block.
    next-costs : (result : Result X AllocError) → limit m.table.slots ≤ m.len → m.len < most_pairs
        → MakesRoom size align old new m.table.block 0 (GrowsTo (next_slots m.table.slots)) (λ _. w.table.block) result
        → Costs farthest (2 * unit_of k) (credit_of k m) 0 old new result
    next-costs result past few made =
        let next = next-ring m.table.slots m.len ring past few in
        let covers = unit-covers k.keys.SIZE k.values.SIZE k.keys.ALIGN k.values.ALIGN in
        let bytes = growth-bytes size _ (unit_of k) covers m.table.slots m.len ring within (omega (arith, past)) few in
        let none : Block = record { generation = 0; addr = align; size = 0; align = align } in
        let held : IsHeld (0 * size) align old.memory.state none = record { readable = refl; of_size = omega arith; of_align = refl } in
        let enough : next_slots m.table.slots * size + (align - 1) ≤ 2 * unit_of k + credit_of k m = omega (arith, bytes) in
        let fits : Covers (2 * unit_of k) (credit_of k m) 0 (next_slots m.table.slots * size) align result = record {
          layout = table-layout _ _ _ _ (next_slots m.table.slots) keys values keys_small values_small next.2;
          small = (IsAlign-bounds align (table-align _ _ _ _ keys values)).1;
          bounded = table-small _ _ (next_slots m.table.slots) keys_small values_small next.2;
          within = enough;
          ok = on-ok result enough;
          err = on-err result;
        } in
        room_costs old new none size align 0 (next_slots m.table.slots) (λ _. w.table.block) (2 * unit_of k) (credit_of k m) 0 one held
        result (omega arith) fits (record {
          between = made.between;
          took = answer-map (λ _. w.table.block) result _ _
              (λ x takes. record { placed = takes.placed; grown = λ some. absurd (omega (arith, some)) }) made.took;
          places = made.places;
        })
      where
        on-ok : (result : Result X AllocError) → next_slots m.table.slots * size + (align - 1) ≤ 2 * unit_of k + credit_of k m
            → OnOk result (next_slots m.table.slots * size + (align - 1) + 0 ≤ 2 * unit_of k + credit_of k m)
        on-ok (Ok x) enough = omega (arith, enough)
        on-ok (Err e) enough = tt

        on-err : (result : Result X AllocError) → OnErr result (0 ≤ 2 * unit_of k + credit_of k m)
        on-err (Ok x) = tt
        on-err (Err e) = omega arith

    -- The key is new, and there is room or not.
    new-asks : (result : Result X AllocError) (has_room is_full : Bool) → nat_lt m.len (limit m.table.slots) ≡ has_room
        → (m.len == most_pairs) ≡ is_full
        → MakesRoom size align old new m.table.block 0 (if has_room then Stays else
        (if is_full then Overflows else GrowsTo (next_slots m.table.slots))) (λ _. w.table.block) result
        → Costs farthest (2 * unit_of k) (credit_of k m) 0 old new result
    new-asks (Ok x) true is_full less full made = costs_nothing farthest _ _ 0 old new x made.1 (omega arith)
    new-asks (Err e) true is_full less full made = absurd made.0
    new-asks result false true less full made = overflow-costs _ _ old new result made.0 made.1
    new-asks result false false less full made =
        next-costs result (grind (arith, nat_tests, less)) (grind (arith, nat_tests, full, within)) made

    all-asks : (is_there : Bool) (result : Result X AllocError)
        → MakesRoom size align old new m.table.block 0 (growth_for is_there m.table.slots m.len) (λ _. w.table.block) result
        → Costs farthest (2 * unit_of k) (credit_of k m) 0 old new result
    all-asks true (Ok x) made = costs_nothing farthest _ _ 0 old new x made.1 (omega arith)
    all-asks true (Err e) made = absurd made.0
    all-asks false result made = new-asks result (nat_lt m.len (limit m.table.slots)) (m.len == most_pairs) refl refl made

    -- An insert costs two units, with the credit that the map has then.
    pub insert-all : (is_there : Bool) (result : Result X AllocError)
        → MakesRoom size align old new m.table.block 0 (growth_for is_there m.table.slots m.len) (λ _. w.table.block) result
        → InsertCosts k old new m is_there w result → OnErr result ((w ≡ m) × (new.memory ≡ old.memory))
        → Costs farthest (2 * unit_of k) (credit_of k m) (credit_of k w) old new result
    insert-all is_there result made costs err = grind (arith, nat_tests, all-asks, insert-most)
