-- The cost of a new block, as room that is made for a collection that had none.
use Rattle.std.proofs.Common.{◌≡◌, ℕ, ◌+◌, ◌-◌, ◌*◌, ◌^◌, ◌≤◌, refl, arith, IsTrue, Result, Ok, Err}
use Rattle.arena_rules.specs.Rounding.{is_layout, is_power_among, up}
use Rattle.arena_chunks.specs.Source.{View}
use Rattle.arena_chunks.specs.Answers.{Answer}
use Rattle.arena_chunks.specs.BlockCalls.{PlacesBlock}
use Rattle.arena_store.specs.declared.block.Block.{Block}
use Rattle.arena_items.specs.Costs.{Costs, Covers, farthest}
use Rattle.arena_items.specs.Room.{MakesRoom, RoomAnswer, SamePlaces, TakesRoom}
use Rattle.arena_items.specs.Values.{IsHeld}
use Rattle.arena_items.specs.declared.room.AllocError.{AllocError}
use Rattle.arena_items.specs.declared.room.AllocError.TheVariants.{AllocErr, CapacityOverflow, OutOfMemory}
use Rattle.arena_items.specs.declared.room.Growth.TheVariants.{GrowsTo}
use Rattle.arena_items.proofs.Layers.{room_costs}

-- the block of a collection with no room
abbrev no_block : ℕ → Block
no_block align = record { generation = 0; addr = align; size = 0; align = align }

module _ (old between new : View) (size align n : ℕ) (same : SamePlaces between new) where
  taken : (answer : Answer) → PlacesBlock old between (n * size) align answer
      → TakesRoom old between (no_block align) 0 (n * size) align answer
  taken answer places = record { placed = λ none. places; grown = λ some. absurd (omega (arith, some)) }

  -- A block that is placed for n values, or refused, makes room for them,
  made : (result : Result Block AllocError) → RoomAnswer (λ b. b) result (PlacesBlock old between (n * size) align)
      → MakesRoom size align old new (no_block align) 0 (GrowsTo n) (λ b. b) result
  made (Ok b) places = record { between = between; took = taken _ places; places = same }
  made (Err (AllocErr k)) places = record { between = between; took = taken _ places; places = same }
  made (Err OutOfMemory) places = record { between = between; took = taken _ places; places = same }
  made (Err CapacityOverflow) places = absurd places

  -- and costs its bytes and its padding.
  pub placing_costs : (result : Result Block AllocError) → old.memory.state.min_align ≡ 1 → IsTrue (is_layout (n * size) align) → align ≤ 16
      → n * size ≤ 2 ^ 60 → RoomAnswer (λ b. b) result (PlacesBlock old between (n * size) align)
      → Costs farthest (n * size + (align - 1)) 0 0 old new result
  placing_costs result one layout small bounded places =
      let held : IsHeld (0 * size) align old.memory.state (no_block align) =
      record { readable = refl; of_size = omega arith; of_align = refl } in
      let covers : Covers (n * size + (align - 1)) 0 0 (n * size) align result = grind (arith, layout) in
      room_costs old new (no_block align) size align 0 n (λ b. b) _ 0 0 one held result (omega arith) covers (made result places)

number_layout : IsTrue (is_layout 4 4)
unfolding is_power_among up
number_layout = refl

-- The instance for the block of a number of four bytes.
pub number_costs : (old new : View) (result : Result Block AllocError) → old.memory.state.min_align ≡ 1
    → RoomAnswer (λ b. b) result (PlacesBlock old new 4 4) → Costs farthest 7 0 0 old new result
number_costs old new result one places = placing_costs old new new 4 4 1 (record { state = refl; statistics = refl; source = refl })
    result one number_layout (omega arith) (omega arith) places
