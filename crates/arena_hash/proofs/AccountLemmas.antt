-- What calls cost, by what they do to the arena and to the numbers of a map.
use Rattle.std.proofs.Common.{◌≡◌, ℕ, ◌+◌, ◌-◌, ◌*◌, ◌^◌, ◌<◌, ◌≤◌, ◌⊎◌, Bool, true, false, max, refl, ap, Ok, Err, arith, IsTrue}
use Rattle.std.specs.Prelude.{nat_lt, ◌==◌, OnOk, OnErr, Result, if◌then◌else◌}
use Rattle.std.proofs.lemmas.Bool.Decides.{nat_tests}
use Rattle.arena_rules.specs.Rounding.{is_layout}
use Rattle.arena_rules.specs.State.{used_bytes}
use Rattle.arena_chunks.specs.Source.{View}
use Rattle.arena_chunks.specs.Answers.{Answer}
use Rattle.arena_chunks.specs.Answers.Answer.{Placed}
use Rattle.arena_chunks.specs.BlockCalls.{PlacesBlock}
use Rattle.arena_store.specs.declared.block.Block.{Block}
use Rattle.arena_chunks.proofs.Layers.{placed_most}
use Rattle.arena_items.specs.Layout.{IsItemLayout}
use Rattle.arena_items.specs.Room.{RoomAnswer, MakesRoom, SamePlaces, Took, capacity_after}
use Rattle.arena_items.specs.declared.room.AllocError.{AllocError}
use Rattle.arena_items.specs.declared.room.AllocError.TheVariants.{AllocErr, CapacityOverflow, OutOfMemory}
use Rattle.arena_items.specs.declared.room.Growth.TheVariants.{Stays, GrowsTo, Overflows}
use Rattle.hash_ring.specs.Policy.{most_pairs, table_align, slot_size, limit, credit, next_slots, IsSlotsFor}
use Rattle.hash_ring.specs.Marks.{IsRing}
use Rattle.hash_ring.proofs.PolicyLemmas.{unit-covers, table-small, slots-ring, next-ring, capacity-bytes, growth-bytes, credit-rises, credit-falls}
use Rattle.arena_table.specs.Contents.{Kind}
use Rattle.arena_table.proofs.LayoutLemmas.{table-layout}
use Rattle.arena_hash.specs.Accounts.{unit_of, spare_of, credit_of, used, IsFree, AsksOnce, InsertCosts}
use Rattle.arena_hash.specs.Policy.{growth_for}
use Rattle.arena_hash.specs.declared.map.HashMap.{HashMap}

-- ---- Results

-- A refusal is reported alike for each block,
pub answer-refused : {X Y : Type 0} (f : X → Block) (g : Y → Block) (e : AllocError) (P : Answer → Type 0)
    → RoomAnswer f (Err e) P → RoomAnswer g (Err e) P
answer-refused f g (AllocErr refused) P h = h
answer-refused f g OutOfMemory P h = h
answer-refused f g CapacityOverflow P h = h

-- also by the call that was to take room,
pub took-refused : {X Y : Type 0} (f : X → Block) (g : Y → Block) (e : AllocError) (old new : View) (size align : ℕ)
    → Took new (λ between. RoomAnswer f (Err e) (PlacesBlock old between size align))
    → Took new (λ between. RoomAnswer g (Err e) (PlacesBlock old between size align))
took-refused f g e old new size align took = grind (arith, nat_tests, answer-refused)

-- and a fact that follows from another follows for each result.
pub answer-map : {X : Type 0} (f : X → Block) (result : Result X AllocError) (P Q : Answer → Type 0) → ((x : Answer) → P x → Q x)
    → RoomAnswer f result P → RoomAnswer f result Q
answer-map f (Ok x) P Q h a = h (Placed (f x)) a
answer-map f (Err (AllocErr refused)) P Q h a = h _ a
answer-map f (Err OutOfMemory) P Q h a = h _ a
answer-map f (Err CapacityOverflow) P Q h a = a

-- ---- Costs

-- no cursor moved: no byte came into use
pub same-used : (old new : View) → SamePlaces old new → used new ≡ used old
same-used old new same = ap (λ s. used_bytes s) same.state

-- A block that was placed brings at most its size and its padding into use.
pub placed-used : (old between new : View) (size align : ℕ) (b : Block) → IsTrue (is_layout size align)
    → PlacesBlock old between size align (Placed b)
    → SamePlaces between new → used new ≤ used old + size + (max align 16 - 1)
placed-used old between new size align b layout places same =
    let least = places.1.valid.entry.min_align in
    let low : old.memory.state.min_align ≤ 16 = grind (arith, nat_tests, least) in
    omega (arith, placed_most old between size align b layout places, same-used between new same, low)

-- What `insert` does to the numbers of its map, by its growth.
pub record MovesNumbers {X K V S : Type 0} (m : HashMap K V S) (is_there : Bool) (w : HashMap K V S) (result : Result X AllocError) : Type
    0 where
  pub slots : OnOk result (w.table.slots ≡ capacity_after (growth_for is_there m.table.slots m.len) m.table.slots)
  pub len : OnOk result (w.len ≡ (if is_there then m.len else m.len + 1))
  pub err : OnErr result (w ≡ m)

module _ {K V S : Type 0} (k : Kind K V S) (keys : IsItemLayout k.keys.SIZE k.keys.ALIGN)
    (values : IsItemLayout k.values.SIZE k.values.ALIGN)
    (keys_small : k.keys.SIZE ≤ 2 ^ 24) (values_small : k.values.SIZE ≤ 2 ^ 24) where
  abbrev size : ℕ
  size = slot_size k.keys.SIZE k.values.SIZE

  abbrev align : ℕ
  align = table_align k.keys.ALIGN k.values.ALIGN

  covers : 8 * size + (max align 16 - 1) ≤ unit_of k
  covers = unit-covers k.keys.SIZE k.values.SIZE k.keys.ALIGN k.values.ALIGN

  -- a call that moved no cursor, on a table that has no more pairs than it had
  pub free-costs : (old new : View) (m w : HashMap K V S) → SamePlaces old new → w.table.slots ≡ m.table.slots → w.len ≤ m.len
      → IsFree k old new m w
  free-costs old new m w same slots fewer = record {
    places = same;
    bytes = same-used old new same;
    credit = rw slots (credit-falls (unit_of k) m.table.slots w.len m.len fewer);
    spare = rw slots (omega (arith, fewer));
  }

  -- A table for n pairs was asked for, and brought at most n units into use.
  pub capacity-costs : {X : Type 0} (old new : View) (block : X → Block) (pairs slots : ℕ) (result : Result X AllocError) → 0 < pairs
      → pairs < 2 ^ 32
      → IsSlotsFor pairs slots → Took new (λ between. RoomAnswer block result (PlacesBlock old between (slots * size) align))
      → AsksOnce k old new block (unit_of k * pairs) result × OnOk result (used new ≤ used old + unit_of k * pairs)
  capacity-costs {X} old new block pairs slots result some few is took = (
    record {
      size = slots * size;
      bounded = omega (arith, table-small k.keys.SIZE k.values.SIZE slots keys_small values_small ring.2);
      within = omega (arith, bytes);
      took =
          took;
    },
    brings result took.took,
  )
    where
      ring : IsRing slots
      ring = slots-ring pairs slots few is

      bytes : slots * size + (max align 16 - 1) ≤ unit_of k * pairs
      bytes = capacity-bytes size (max align 16 - 1) (unit_of k) covers pairs slots some is

      brings : (result : Result X AllocError) → RoomAnswer block result (PlacesBlock old took.between (slots * size) align)
          → OnOk result (used new ≤ used old + unit_of k * pairs)
      brings (Ok x) places =
          let layout = table-layout _ _ _ _ slots keys values keys_small values_small ring.2 in
          omega (arith, bytes, placed-used old took.between new (slots * size) align (block x) layout places took.places)
      brings (Err e) places = tt

  module _ {X : Type 0} (old new : View) (m w : HashMap K V S) (ring : (m.table.slots ≡ 0) ⊎ IsRing m.table.slots)
      (within : m.len ≤ limit m.table.slots) where
    -- The key is there.
    there-costs : (result : Result X AllocError)
        → MakesRoom size align old new m.table.block 0 (growth_for true m.table.slots m.len) (λ _. w.table.block) result
        → MovesNumbers m true w result → InsertCosts k old new m true w result
    there-costs (Ok x) made moves = record {
      there = λ is. (refl, free-costs old new m w made.1 moves.slots (omega (arith, moves.len)));
      room = λ no. absurd (cc);
      grows = λ no. absurd (cc);
      asks = λ no. absurd (cc);
      refused = tt;
    }
    there-costs (Err e) made moves = absurd made.0

    -- The next table was asked for.
    grown-costs : (result : Result X AllocError)
        → MakesRoom size align old new m.table.block 0 (GrowsTo (next_slots m.table.slots)) (λ _. w.table.block) result
        → OnOk result (w.table.slots ≡ next_slots m.table.slots) → OnOk result (w.len ≡ m.len + 1) → OnErr result (w ≡ m)
        → limit m.table.slots ≤ m.len → m.len < most_pairs → InsertCosts k old new m false w result
    grown-costs result made slots len err past few = record {
      there = λ no. absurd (cc);
      room = λ is some. absurd (omega (arith, past, some));
      grows = λ is none. grows result made slots len;
      asks = λ is none least. record {
        size = next_slots m.table.slots * size;
        bounded = omega (arith, table-small k.keys.SIZE k.values.SIZE (next_slots m.table.slots) keys_small values_small next.2);
        within = omega (arith, bytes);
        took = record {
          between = made.between;
          took = answer-map (λ _. w.table.block) result _ _ (λ x takes. takes.placed refl)
              made.took;
          places = made.places;
        };
      };
      refused = refused result err;
    }
      where
        next : IsRing (next_slots m.table.slots)
        next = next-ring m.table.slots m.len ring past few

        bytes : next_slots m.table.slots * size + (max align 16 - 1) + credit (unit_of k) (next_slots m.table.slots) (m.len + 1)
            ≤ 2 * unit_of k + credit (unit_of k) m.table.slots m.len
        bytes = growth-bytes size (max align 16 - 1) (unit_of k) covers m.table.slots m.len ring within (omega (arith, past)) few

        grows : (result : Result X AllocError)
            → MakesRoom size align old new m.table.block 0 (GrowsTo (next_slots m.table.slots)) (λ _. w.table.block) result
            → OnOk result (w.table.slots ≡ next_slots m.table.slots) → OnOk result (w.len ≡ m.len + 1)
            → OnOk result (used new + credit_of k w ≤ used old + (2 * unit_of k + credit_of k m))
        grows (Ok x) made slots len =
            let layout = table-layout _ _ _ _ (next_slots m.table.slots) keys values keys_small values_small next.2 in
            let brings = placed-used old made.between new (next_slots m.table.slots * size) align w.table.block layout
            (made.took.placed refl) made.places in
            rw (slots, len) (omega (arith, bytes, brings))
        grows (Err e) made slots len = tt

        refused : (result : Result X AllocError) → OnErr result (w ≡ m)
            → OnErr result ((spare_of w ≡ spare_of m) × (credit_of k w ≡ credit_of k m))
        refused (Ok x) err = tt
        refused (Err e) err = (ap spare_of err, ap (credit_of k) err)

    -- The key is new, and there is room or not.
    new-costs : (result : Result X AllocError) (has_room is_full : Bool) → nat_lt m.len (limit m.table.slots) ≡ has_room
        → (m.len == most_pairs) ≡ is_full
        → MakesRoom size align old new m.table.block 0 (if has_room then Stays else
        (if is_full then Overflows else GrowsTo (next_slots m.table.slots)))
        (λ _. w.table.block) result
        → OnOk result (w.table.slots ≡ capacity_after (if has_room then Stays else
        (if is_full then Overflows else GrowsTo (next_slots m.table.slots))) m.table.slots)
        → OnOk result (w.len ≡ m.len + 1) → OnErr result (w ≡ m) → InsertCosts k old new m false w result
    new-costs (Ok x) true is_full less full made slots len err =
        let room : m.len < limit m.table.slots = grind (arith, nat_tests, less) in
        record {
          there = λ no. absurd (cc);
          room = λ is some. (
            refl,
            record {
              places = made.1;
              bytes = same-used old new made.1;
              credit = rw (slots, len) (credit-rises (unit_of k) m.table.slots m.len);
              spare = rw (slots, len) (omega arith);
            },
          );
          grows = λ is none. absurd (omega (arith, room, none));
          asks = λ is none. absurd (omega (arith, room, none));
          refused = tt;
        }
    new-costs (Err e) true is_full less full made slots len err = absurd made.0
    new-costs (Ok x) false true less full made slots len err = absurd (let no = made.0 in cc)
    new-costs (Err e) false true less full made slots len err =
        let past : limit m.table.slots ≤ m.len = grind (arith, nat_tests, less) in
        let most : m.len ≡ most_pairs = grind (arith, nat_tests, full) in
        record {
          there = λ no. absurd (cc);
          room = λ is some. absurd (omega (arith, past, some));
          grows = λ is none. tt;
          asks = λ is none few. absurd (omega (arith, most, few));
          refused = (ap spare_of err, ap (credit_of k) err);
        }
    new-costs result false false less full made slots len err = grown-costs result made slots len err past few
      where
        past : limit m.table.slots ≤ m.len
        past = grind (arith, nat_tests, less)

        few : m.len < most_pairs
        few = grind (arith, nat_tests, full)

    -- What `insert` costs follows from what it does to the arena and to the numbers.
    pub insert-costs : (is_there : Bool) (result : Result X AllocError)
        → MakesRoom size align old new m.table.block 0 (growth_for is_there m.table.slots m.len) (λ _. w.table.block) result
        → MovesNumbers m is_there w result → InsertCosts k old new m is_there w result
    insert-costs true result made moves = there-costs result made moves
    insert-costs false result made moves =
        new-costs result (nat_lt m.len (limit m.table.slots)) (m.len == most_pairs) refl refl made moves.slots moves.len moves.err
