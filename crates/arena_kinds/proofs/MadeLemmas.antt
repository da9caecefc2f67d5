-- Values at every depth: what calls leave of them, and calls that make new ones.
use Rattle.std.proofs.Common.{◌≡◌, ℕ, sym, refl, subst, ◌∙◌, Option, Some, None, List, [], ◌∷◌, ◌++◌, Ok, Err, IsTrue}
use Rattle.std.specs.Prelude.{Result, IfOk, IsPermutation}
use Rattle.std.proofs.lemmas.List.Sorted.{IsPermutation-sym, IsPermutation-refl}
use Rattle.arena_chunks.specs.Memory.{Memory, is_readable}
use Rattle.arena_chunks.specs.Source.{View}
use Rattle.arena_chunks.specs.BlockCalls.{PlacesBlock}
use Rattle.arena_chunks.specs.Frame.{Frame, AreAllApart, ArePairwiseApart}
use Rattle.arena_store.specs.declared.block.Block.{Block}
use Rattle.arena_chunks.proofs.Layers.{all_from_none, empty_after, apart_both, pairwise_both, frame_reflexive, frame_then, frame_weaken, frame_keeps_all}
use Rattle.arena_items.specs.Footprint.{AreReadable, Agree}
use Rattle.arena_items.specs.Room.{RoomAnswer}
use Rattle.arena_items.specs.declared.item.Item.{Ghosts}
use Rattle.arena_items.specs.declared.room.AllocError.{AllocError}
use Rattle.arena_items.proofs.Layers.{stays_readable, stays_agree, stays_apart}
use Rattle.arena_vec.specs.Held.{empty_block}
use Rattle.arena_kinds.specs.Asks.{Ask, PlacesAll, refusal}
use Rattle.arena_kinds.specs.Asks.Ask.{Room, Empty}
use Rattle.arena_kinds.specs.Kinds.{Kind, plain, row_in}
use Rattle.arena_kinds.specs.laws.KindLaws.{IsLawful}
use Rattle.arena_kinds.specs.Copies.{IsMade, MakesNew, StaysWhole}
use Rattle.arena_kinds.proofs.ApartLemmas.{all_in_order, apart_turned}
use Rattle.arena_kinds.proofs.AsksLemmas.{same_places, asked_then, asked_refused, block_of, refusal_leaves, one_asked}

-- ---- Values that a call leaves alone

module _ {T : Type 0} {kind : Kind T} (is : IsLawful kind) {old new : Memory} {before after : List Block}
    (frame : Frame old new before after) where
  -- The blocks of a value that are apart keep their bytes.
  pub deep_agree : (v : T) → kind.is_held old v → AreAllApart (kind.deep old v) before → Agree old new (kind.deep old v)
  deep_agree v held apart = stays_agree old new after (kind.deep old v)
      (frame_keeps_all old new before after (kind.deep old v) frame (is.readable old v held) apart)

  -- The value is what it was.
  pub deep_stays : (v : T) → kind.is_held old v → AreAllApart (kind.deep old v) before → StaysWhole kind old new after v
  deep_stays v held apart =
      let blocks = kind.deep old v in
      let stays = frame_keeps_all old new before after blocks frame (is.readable old v held) apart in
      let agree = stays_agree old new after blocks stays in
      let same = is.deep old new v agree in
      record {
        held = is.held old new v held agree (stays_readable old new after blocks stays);
        deep = same;
        whole = is.whole old new v agree;
        apart = subst (λ bs. AreAllApart bs after) (sym same) (stays_apart old new after blocks stays);
      }

  -- A value that was made is as it was made.
  pub made_stays : {meaning : kind.Whole} {blocks : List Block} {w : T} → IsMade kind meaning old blocks w → AreAllApart blocks before
      → IsMade kind meaning new blocks w
  made_stays {blocks} {w} made apart =
      let beside = apart_turned blocks (kind.deep old w) before (IsPermutation-sym (kind.deep old w) blocks made.deep) apart in
      let stays = deep_stays w made.held beside in
      record {
        held = stays.held;
        means = stays.whole ∙ made.means;
        trim = is.trim old new w made.trim (deep_agree w made.held beside);
        deep = subst (λ bs. IsPermutation bs blocks) (sym stays.deep) made.deep;
      }

-- The blocks of a value that was made are readable.
pub made_readable : {T : Type 0} {kind : Kind T} (is : IsLawful kind) {meaning : kind.Whole} {m : Memory} {blocks : List Block} {w : T}
    → IsMade kind meaning m blocks w → AreReadable m.state blocks
made_readable {kind} is {m} {blocks} {w} made =
    all_in_order (λ (b : Block). IsTrue (is_readable m.state b)) (kind.deep m w) blocks made.deep (is.readable m w made.held)

-- ---- Calls that place blocks

-- A value is what it was when blocks are placed.
pub placed_stays : {T : Type 0} {kind : Kind T} (is : IsLawful kind) {old new : Memory} {blocks : List Block} (v : T)
    → Frame old new [] blocks → kind.is_held old v → StaysWhole kind old new blocks v
placed_stays {kind} is {old} v frame held = deep_stays is frame v held (all_from_none (kind.deep old v))

-- Readable blocks are apart from those that a call places.
pub beside_new : (old new : Memory) (bs after : List Block) → AreReadable old.state bs → Frame old new [] after → AreAllApart bs after
beside_new old new bs after readable frame =
    stays_apart old new after bs (frame_keeps_all old new [] after bs frame readable (all_from_none bs))

-- Blocks placed after others, which are readable, are placed with them.
pub frame_more : (old mid new : Memory) (bs cs : List Block) → Frame old mid [] bs → Frame mid new [] cs → Frame old new [] (bs ++ cs)
frame_more old mid new bs cs first second = frame_then _ _ _ _ _ _ first
    (frame_weaken _ _ _ bs _ (bs ++ cs) (λ addr n some apart. tt) (λ addr n some apart rest. apart_both addr n bs cs apart rest) second)

pub places_then : {xs ys : List Ask} {old mid new : View} {bs cs : List Block} {end : Option AllocError}
    → AreReadable mid.memory.state bs → PlacesAll xs old mid bs None → PlacesAll ys mid new cs end
    → PlacesAll (xs ++ ys) old new (bs ++ cs) end
places_then {xs} {ys} {old} {mid} {new} {bs} {cs} {end} readable first second = record {
  asked = asked_then xs ys old mid new bs cs end first.asked second.asked;
  apart = pairwise_both bs cs first.apart second.apart (beside_new mid.memory new.memory bs cs readable second.frame);
  frame = frame_more old.memory mid.memory new.memory bs cs first.frame second.frame;
}

pub places_refused : {xs : List Ask} (ys : List Ask) {old new : View} {bs : List Block} {e : AllocError}
    → PlacesAll xs old new bs (Some e) → PlacesAll (xs ++ ys) old new bs (Some e)
places_refused {xs} ys {old} {new} {bs} {e} placed =
    record { asked = asked_refused xs ys old new bs e placed.asked; apart = placed.apart; frame = placed.frame }

pub one_apart : {X : Type 0} (f : X → Block) (result : Result X AllocError) → ArePairwiseApart (block_of f result)
one_apart f (Ok x) = (tt, tt)
one_apart f (Err e) = tt

pub places_one : {X : Type 0} (f : X → Block) (result : Result X AllocError) {size align : ℕ} {old new : View}
    → RoomAnswer f result (PlacesBlock old new size align)
    → PlacesAll (Room size align ∷ []) old new (block_of f result) (refusal result)
places_one f (Ok x) placed = record { asked = one_asked f (Ok x) _ _ _ _ placed; apart = (tt, tt); frame = placed.1.outcome.frame }
places_one f (Err e) {size} {align} {old} {new} placed = record {
  asked = one_asked f (Err e) size align old new placed;
  apart = tt;
  frame = rw (refusal_leaves f e size align old new placed) (frame_reflexive old.memory []);
}

-- ---- Calls that make values

-- A value that names no block is made of nothing.
pub makes_none : {T : Type 0} {kind : Kind T} {meaning : kind.Whole} {a : View} {w : T} → IsMade kind meaning a.memory [] w
    → MakesNew kind meaning [] a a (Ok w)
makes_none {a} made = record {
  blocks = [];
  placed = record { asked = (refl, refl, same_places a); apart = tt; frame = frame_reflexive a.memory [] };
  made = made;
}

-- One that names a block is made of it.
pub makes_one : {T : Type 0} {kind : Kind T} {meaning : kind.Whole} (f : T → Block) (result : Result T AllocError) {size align : ℕ}
    {old new : View} → RoomAnswer f result (PlacesBlock old new size align)
    → IfOk result (λ w. IsMade kind meaning new.memory (f w ∷ []) w) → MakesNew kind meaning (Room size align ∷ []) old new result
makes_one f (Ok w) placed made = record { blocks = f w ∷ []; placed = places_one f (Ok w) placed; made = made }
makes_one f (Err e) placed made = record { blocks = []; placed = places_one f (Err e) placed; made = tt }

pub one_refused : {T X : Type 0} {kind : Kind T} {meaning : kind.Whole} (f : X → Block) {size align : ℕ} {old new : View}
    {e : AllocError} → RoomAnswer f (Err e) (PlacesBlock old new size align) → MakesNew kind meaning (Room size align ∷ []) old new (Err e)
one_refused f {e} placed = record { blocks = []; placed = places_one f (Err e) placed; made = tt }

-- If a part of a value is refused, so is the value.
pub makes_refused : {T U : Type 0} {kind : Kind T} {of : Kind U} {meaning : kind.Whole} {meant : of.Whole} {xs : List Ask}
    (ys : List Ask) {old new : View} {e : AllocError} → MakesNew kind meaning xs old new (Err e)
    → MakesNew of meant (xs ++ ys) old new (Err e)
makes_refused ys makes = record { blocks = makes.blocks; placed = places_refused ys makes.placed; made = tt }

-- A value whose one block is the empty one of no storage is made of nothing.
pub makes_empty : {T : Type 0} {kind : Kind T} {meaning : kind.Whole} {align : ℕ} {a : View} {w : T}
    → IsMade kind meaning a.memory (empty_block align ∷ []) w → MakesNew kind meaning (Empty align ∷ []) a a (Ok w)
makes_empty {align} {a} made = record {
  blocks = empty_block align ∷ [];
  placed = record {
    asked = ([], refl, (refl, refl, same_places a));
    apart = (tt, tt);
    frame = (empty_after a.memory a.memory [] [] [] (empty_block align) refl).1 (frame_reflexive a.memory []);
  };
  made = made;
}

-- No values are reached through a handle whose block is the empty one of no storage.
pub makes_no_values : {V T : Type 0} (item : Ghosts T) (block : V → Block) (is_in : Memory → V → Type 0) (values : Memory → V → List T)
    (is_trim : V → Type 0) (ask : V → Ask) (align : ℕ) (a : View) (w : V) → is_in a.memory w → block w ≡ empty_block align
    → values a.memory w ≡ [] → is_trim w → MakesNew (row_in item plain block is_in values is_trim ask) [] (Empty align ∷ []) a a (Ok w)
makes_no_values item block is_in values is_trim ask align a w held at none trim =
    makes_empty (record {
      held = (held, rw none tt);
      means = rw none refl;
      trim = (trim, rw none tt);
      deep = rw (at, none) (IsPermutation-refl (empty_block align ∷ []));
    })
