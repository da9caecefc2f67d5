-- Boxes of new values, and of values that are replaced by new ones.
use Rattle.std.proofs.Common.{refl, List, [], ◌∷◌, ◌++◌, Ok, Err}
use Rattle.std.specs.Prelude.{Result}
use Rattle.std.proofs.lemmas.List.Sorted.{IsPermutation-append_left}
use Rattle.arena_chunks.specs.Source.{View}
use Rattle.arena_chunks.proofs.Layers.{all_from_none}
use Rattle.arena_store.specs.declared.block.Block.{Block}
use Rattle.arena_items.specs.declared.item.Item.{Ghosts}
use Rattle.arena_items.specs.declared.boxes.Box.{Box}
use Rattle.arena_items.specs.declared.room.AllocError.{AllocError}
use Rattle.arena_kinds.specs.Asks.{Ask, PlacesAll, refusal}
use Rattle.arena_kinds.specs.Asks.Ask.{Room}
use Rattle.arena_kinds.specs.Kinds.{Kind, box_of}
use Rattle.arena_kinds.specs.laws.KindLaws.{IsLawful}
use Rattle.arena_kinds.specs.Copies.{IsMade, MakesNew}
use Rattle.arena_kinds.specs.Dummies.{Boxes, TakesBox}
use Rattle.arena_kinds.proofs.AsksLemmas.{block_of}
use Rattle.arena_kinds.proofs.MadeLemmas.{made_stays, made_readable, places_then, places_refused, places_one}

-- A value that was made is as it is after another was placed in a box.
stays : {T : Type 0} {item : Ghosts T} {kind : Kind T} (is : IsLawful kind) {meaning : kind.Whole} {mid new : View} {blocks : List Block}
    {v w : T} {b : Box T} → IsMade kind meaning mid.memory blocks w → Boxes item mid new v (Ok b) → IsMade kind meaning new.memory blocks w
stays is {blocks} made boxes = made_stays is boxes.placed.1.outcome.frame made (all_from_none blocks)

module _ {T : Type 0} {item : Ghosts T} {kind : Kind T} (is : IsLawful kind) {meaning : kind.Whole} {asks : List Ask} {old mid new : View}
    {w : T} (makes : MakesNew kind meaning asks old mid (Ok w)) where
  -- The block of a box comes after its blocks.
  placed_box : {v : T} {result : Result (Box T) AllocError} → Boxes item mid new v result
      → PlacesAll (asks ++ Room item.SIZE item.ALIGN ∷ []) old new (makes.blocks ++ block_of (λ (b : Box T). b.block) result)
      (refusal result)
  placed_box {result} boxes =
      places_then (made_readable is makes.made) makes.placed (places_one (λ (b : Box T). b.block) result boxes.placed)

  -- A value that was made, and then placed in a box, is a box that was made.
  pub makes_box : (result : Result (Box T) AllocError) → Boxes item mid new w result
      → MakesNew (box_of item kind) meaning (asks ++ Room item.SIZE item.ALIGN ∷ []) old new result
  makes_box (Err e) boxes = record { blocks = makes.blocks ++ []; placed = placed_box boxes; made = tt }
  makes_box (Ok b) boxes =
      let whole = stays is makes.made boxes in
      let same = boxes.value in
      record {
        blocks = makes.blocks ++ b.block ∷ [];
        placed = placed_box boxes;
        made = record {
          held = (boxes.held, rw same whole.held);
          means = rw same whole.means;
          trim = rw same whole.trim;
          deep = rw same (IsPermutation-append_left (b.block ∷ []) (kind.deep new.memory w) makes.blocks whole.deep);
        };
      }

  -- The old value is placed in a box once a new one was made for its place,
  pub takes_box : {v : T} {b : Box T} → Boxes item mid new v (Ok b) → TakesBox item kind meaning asks old new v w (Ok b)
  takes_box {b} boxes = record {
    blocks = makes.blocks ++ b.block ∷ [];
    placed = placed_box boxes;
    held = boxes.held;
    taken = boxes.value;
    left = (makes.blocks, refl, stays is makes.made boxes);
    err = tt;
  }

  -- or stays in its place.
  pub takes_none : {v : T} {e : AllocError} → Boxes item mid new v (Err e) → TakesBox item kind meaning asks old new v v (Err e)
  takes_none boxes =
      record { blocks = makes.blocks ++ []; placed = placed_box boxes; held = tt; taken = tt; left = tt; err = refl }

-- So it does if no new one is made.
pub takes_refused : {T : Type 0} (item : Ghosts T) {kind : Kind T} {meaning : kind.Whole} {asks : List Ask} {old new : View} {v : T}
    {e : AllocError} → MakesNew kind meaning asks old new (Err e) → TakesBox item kind meaning asks old new v v (Err e)
takes_refused item makes = record {
  blocks = makes.blocks;
  placed = places_refused (Room item.SIZE item.ALIGN ∷ []) makes.placed;
  held = tt;
  taken = tt;
  left = tt;
  err = refl;
}
