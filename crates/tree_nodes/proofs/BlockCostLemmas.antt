-- What it costs to place a block.
use Rattle.std.proofs.lemmas.Bool.Decides.{nat_tests}
use Rattle.std.proofs.Common.{◌≡◌, ℕ, ◌+◌, ◌-◌, ◌^◌, ◌≤◌, inl, inr, refl, ap, arith, IsTrue, Option, Some, None}
use Rattle.std.proofs.lemmas.Bool.{cases_lt}
use Rattle.arena_rules.specs.Rounding.{is_layout}
use Rattle.arena_rules.specs.State.{used_bytes, allocated_bytes, top_of}
use Rattle.arena_chunks.specs.Memory.{Memory}
use Rattle.arena_chunks.specs.Source.{View}
use Rattle.arena_chunks.specs.Answers.{Answer}
use Rattle.arena_chunks.specs.Answers.Answer.{Placed, Refused, Exhausted}
use Rattle.arena_chunks.specs.Asking.{AsksWithin}
use Rattle.arena_chunks.specs.BlockCalls.{PlacesBlock}
use Rattle.arena_store.specs.declared.block.Block.{Block}
use Rattle.arena_chunks.proofs.Layers.{asks_placed, placed_most, placed_full, placed_starved_any}
use Rattle.arena_items.specs.Costs.{used}
use Rattle.arena_items.specs.Denied.{Layouts, Only}
use Rattle.arena_items.specs.Room.{SamePlaces}
use Rattle.arena_items.specs.declared.room.AllocError.{AllocError}
use Rattle.arena_items.specs.declared.room.AllocError.TheVariants.{AllocErr, OutOfMemory}
use Rattle.tree_nodes.specs.Spending.{Stops, Spends, far_end}
use Rattle.tree_nodes.proofs.NodeCostLemmas.{told, refused_place, unchanged}
use Rattle.tree_nodes.proofs.SpendingLemmas.{frame_kind}

module _ (old new : View) (size align : ℕ) (one : old.memory.state.min_align ≡ 1) (layout : IsTrue (is_layout size align))
    (small : align ≤ 16) (fits : size + 64 ≤ 2 ^ 63) where
  abbrev cost : ℕ
  cost = size + (align - 1)

  asks : (answer : Answer) → PlacesBlock old new size align answer → AsksWithin (used old + (cost + 0)) old new
  asks answer places = asks_placed _ old new size align answer layout small (omega (arith, one)) places

  -- A block costs its bytes with their padding.
  pub block_placed : (b : Block) → PlacesBlock old new size align (Placed b) → Spends (Only size align) cost 0 0 old new None
  block_placed b places = record {
    takes = omega (arith, placed_most old new size align b layout places, one);
    asks = asks (Placed b) places;
    kind = frame_kind places.1.outcome.frame;
    stops = tt;
  }

  -- A refusal leaves everything unchanged.
  stopped : (answer : Answer) (error : Option AllocError) → PlacesBlock old new size align answer → new.memory ≡ old.memory
      → Stops (Only size align) (used old + (cost + 0)) old new error → Spends (Only size align) cost 0 0 old new error
  stopped answer error places same stops = record {
    takes = omega (arith, ap (λ (m : Memory). used_bytes m.state) same);
    asks = asks answer places;
    kind = frame_kind (unchanged same);
    stops = stops;
  }

  pub block_refused : (k : ℕ) → PlacesBlock old new size align (Refused k) → Spends (Only size align) cost 0 0 old new (Some (AllocErr k))
  block_refused k places =
      let same = places.1.outcome.1.memory in
      let held = ap (λ (m : Memory). allocated_bytes m.state) same in
      stopped (Refused k) (Some (AllocErr k)) places same (
        record {
          counted = told old new size align k places;
          starved = λ growing. elim (cases_lt (allocated_bytes old.memory.state) (2 ^ 60)) [
            | inl few ↦ elim (cases_lt far_end (top_of old.memory.state.chunks)) [
              | inl far ↦ inr (inr (omega (arith, far, held)))
              | inr low ↦ inl (placed_starved_any old new size align k layout small fits growing places few low)
            ]
            | inr much ↦ inr (inl (omega (arith, much, held)))
          ];
          full = λ still. record {
            still = still;
            short = omega (arith, (placed_full old new size align k layout still places).short, one);
          };
          denied = record {
            size = size;
            align = align;
            asked = (refl, refl);
            none = refused_place old new size align k layout places;
          };
        },
        unchanged same,
      )

  pub block_exhausted : PlacesBlock old new size align Exhausted → Spends (Only size align) cost 0 0 old new (Some OutOfMemory)
  block_exhausted places =
      let same = ap (λ (v : View). v.memory) places.1.outcome.same in
      stopped Exhausted (Some OutOfMemory) places same (unchanged same)

-- Calls after which no cursor moved spend nothing more.
pub spends_same : {layouts : Layouts} {bytes before after : ℕ} {old mid new : View} → SamePlaces mid new
    → Spends layouts bytes before after old mid None → Spends layouts bytes before after old new None
spends_same same spends = grind (arith, nat_tests, asks)
