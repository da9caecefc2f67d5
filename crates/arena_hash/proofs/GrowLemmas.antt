-- The room for more.
use Rattle.std.proofs.Common.{◌≡◌, ℕ, ◌*◌, ◌<◌, arith}
use Rattle.std.specs.Prelude.{Result, ◌==◌, if◌then◌else◌}
use Rattle.std.proofs.lemmas.Bool.Decides.{nat_tests}
use Rattle.arena_chunks.specs.Source.{View}
use Rattle.arena_chunks.specs.BlockCalls.{PlacesBlock}
use Rattle.arena_items.specs.Room.{MakesRoom, RoomAnswer, Took}
use Rattle.arena_items.specs.declared.room.AllocError.{AllocError}
use Rattle.arena_items.specs.declared.room.Growth.TheVariants.{GrowsTo, Overflows}
use Rattle.hash_ring.specs.Policy.{most_pairs, next_slots}
use Rattle.arena_hash.proofs.AccountLemmas.{answer-map}
use Rattle.arena_store.specs.declared.block.Block.{Block}

-- A call that placed a block, or was refused, makes room as a growth from no capacity.
pub made-placed : {X : Type 0} (size align : ℕ) (old new : View) (block : Block) (len next more : ℕ) (f : X
    → Block) (result : Result X AllocError)
    → (len ≡ most_pairs → ⊥) → more ≡ next → Took new (λ between. RoomAnswer f result (PlacesBlock old between (more * size) align))
    → MakesRoom size align old new block 0 (if len == most_pairs then Overflows else GrowsTo next) f result
made-placed size align old new block len next more f result few is took = grind (arith, nat_tests, answer-map)

-- the next table has more slots
pub next-above : (slots : ℕ) → slots < next_slots slots
next-above slots = grind (arith, nat_tests)
