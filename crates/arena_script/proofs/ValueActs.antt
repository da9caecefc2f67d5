-- What commands on values do.
use Rattle.std.proofs.lemmas.Bool.Decides.{nat_tests}
use Rattle.std.proofs.Common.{◌≡◌, refl, ℕ, arith, IsTrue, Ok, Err, Option, None, is_some, false, List}
use Rattle.arena_rules.specs.Rounding.{is_layout}
use Rattle.arena_chunks.specs.Memory.{Memory}
use Rattle.arena_chunks.specs.Source.{View}
use Rattle.arena_chunks.specs.BlockCalls.{WritesBlock}
use Rattle.arena_chunks.proofs.Layers.{placed_least}
use Rattle.arena_items.specs.laws.LayoutLaws.{plain_8}
use Rattle.arena_items.specs.Room.{SamePlaces}
use Rattle.arena_items.specs.Values.{IsBoxIn, box_value}
use Rattle.arena_items.specs.declared.boxes.Box.{Box}
use Rattle.arena_items.specs.declared.room.AllocError.{AllocError}
use Rattle.arena_items.specs.Asks.{Fresh}
use Rattle.arena_items.proofs.Layers.{row_is_layout, still, block_taken, block_asked}
use Rattle.arena_clone.specs.Placing.{Boxes}
use Rattle.script_rules.specs.Objects.{get, AValue}
use Rattle.script_rules.specs.declared.commands.Command.{Command}
use Rattle.script_rules.specs.Effects.{Gives, effect}
use Rattle.script_rules.specs.declared.commands.Command.TheVariants.{MakeValue, Store}
use Rattle.script_rules.specs.declared.commands.ScriptReply.TheVariants.{Done}
use Rattle.arena_script.specs.Kinds.{long}
use Rattle.arena_script.specs.Things.{Things, seen}
use Rattle.arena_script.specs.Wants.{takes_room}
use Rattle.arena_script.specs.Asks.{asks}
use Rattle.arena_script.specs.Places.{block_at}
use Rattle.arena_script.specs.Acts.{GivesThing, GivesNothing}
use Rattle.arena_script.specs.declared.thing.Thing.TheVariants as thing
use Rattle.arena_script.proofs.CostFacts.{same_used, nothing_given, block_given, block_refused}
use Rattle.arena_script.proofs.GivingLemmas.{exchanged, made, kept}
use Rattle.arena_script.proofs.ThingLemmas.{Holds}

pub is_none : {X : Type 0} (o : Option X) → is_some o ≡ false → o ≡ None
is_none o none = grind (arith, nat_tests)

-- ---- A value that a name holds

pub store_gives : {things : Things} {old now : View} {name value : ℕ} {b : Box ℕ} {list : List ℕ}
    → Holds things old.memory name (thing.Value b) → WritesBlock old.memory now.memory b.block 0 list → now.source ≡ old.source
    → IsBoxIn long now.memory b → box_value long now.memory b ≡ value
    → GivesThing (Store name value) things old now name (thing.Value b) Done
unfolding effect
store_gives {things} {old} {now} h writes source held is =
    let same : SamePlaces old now = record { state = writes.state; statistics = writes.statistics; source = source } in
    exchanged h (rw (h.found, is) refl) refl (record {
      held = held;
      takes = (refl, same);
      least = omega (arith, same_used old now same);
      costs = nothing_given 0 _ 0 old now same (omega arith);
      frame = writes.frame;
    })

-- ---- A new value

pub made_given : (things : Things) (m : Memory) (name value : ℕ) → get things name ≡ None
    → effect (MakeValue name value) (seen m things) ≡ Gives name (AValue value) Done 15
unfolding effect
made_given things m name value none = rw none refl

-- any command that gives a new name a value
layout : IsTrue (is_layout 8 8)
layout = row_is_layout 1 8 8 plain_8 (omega arith) (omega arith)

module _ {command : Command} {things : Things} {old new : View} {name value : ℕ} (taken : IsTrue (takes_room command))
    (none : get things name ≡ None) (one : old.memory.state.min_align ≡ 1)
    (given : effect command (seen old.memory things) ≡ Gives name (AValue value) Done 15)
    (asks_is : asks command (seen old.memory things) (block_at things) ≡ Fresh 8 8) where
  pub made_gives : {b : Box ℕ} → Boxes long old new value (Ok b) → GivesThing command things old new name (thing.Value b) Done
  made_gives {b} boxes = made none taken (rw boxes.value given) asks_is (record {
    held = boxes.held;
    takes = block_taken old new 8 8 None b.block boxes.placed;
    least = omega (arith, placed_least old new 8 8 b.block layout boxes.placed, boxes.held.of_size);
    costs = block_given old new new 8 8 15 0 0 one layout (omega arith) (omega arith) (omega arith) (still new) b.block boxes.placed;
    frame = boxes.placed.1.outcome.frame;
  })

  pub made_gives_nothing : {e : AllocError} → Boxes long old new value (Err e)
      → GivesNothing command things old new e
  made_gives_nothing {e} boxes = kept none taken given asks_is (block_asked old new 8 8 (λ (b : Box ℕ). b.block) e boxes.placed)
      (block_refused old new new 8 8 15 0 0 one layout (omega arith) (omega arith) (omega arith) (still new) (λ (b : Box ℕ). b.block) e
      boxes.placed)
