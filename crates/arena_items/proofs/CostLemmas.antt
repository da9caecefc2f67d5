-- What it costs to take room in an arena of least alignment 1: the bytes that come into use, what a refusal is, and what
-- calls cost, one after another.
use Rattle.std.proofs.Common.{◌≡◌, ℕ, ◌+◌, ◌-◌, ◌*◌, ◌^◌, ◌≤◌, ◌==◌, ◌&&◌, nat_le, Bool, true, false, refl, sym, ap, ◌∙◌, subst, arith, IsTrue, Option, Some, None, Result, Ok, Err, inl, inr}
use Rattle.std.specs.Prelude.{if◌then◌else◌, IsOk}
use Rattle.std.proofs.Math.Nat.{mul-le-mul_right}
use Rattle.std.proofs.lemmas.Bool.Decides.{nat_tests}
use Rattle.std.proofs.lemmas.Option.{cond_some}
use Rattle.arena_rules.specs.Asking.{IsRefusedBySource}
use Rattle.arena_rules.specs.Rounding.{up, is_layout}
use Rattle.arena_rules.specs.Source.{Source}
use Rattle.arena_rules.specs.State.{State, cursor_of, used_bytes, allocated_bytes}
use Rattle.arena_rules.specs.Moves.{Outcome, Resizing, placed, fails, growth, down_to}
use Rattle.arena_rules.specs.Moves.Resizing.{Stays, Moves, Anew, Refused}
use Rattle.arena_rules.proofs.AskingLemmas.{asks_more, asks_then, starved_by, starved_nearer, starved_after}
use Rattle.arena_rules.proofs.RoundingLemmas.{up_same, up_mono, power_positive, layout_power, layout_fits}
use Rattle.arena_rules.proofs.UsedResizeLemmas.{growing_stays}
use Rattle.arena_chunks.specs.Source.{View}
use Rattle.arena_chunks.specs.Asking.{AsksWithin}
use Rattle.arena_chunks.specs.Answers.{Answer}
use Rattle.arena_chunks.specs.Answers.Answer.{Placed, Exhausted, Refused as Denied}
use Rattle.arena_chunks.specs.BlockCalls.{PlacesBlock, GrowsBlock, ResizesBlock, growing_of}
use Rattle.arena_store.specs.declared.block.Block.{Block}
use Rattle.arena_chunks.proofs.Layers.{placed_least, placed_most, grown_least, grown_most, anew_least, anew_most, asks_same, asks_placed, asks_resized, placed_starved, placed_full}
use Rattle.arena_items.specs.Costs.{used, Brings, Costs, Covers, farthest}
use Rattle.arena_items.specs.Room.{RoomAnswer, MakesRoom, TakesRoom, SamePlaces}
use Rattle.arena_items.specs.Values.{IsHeld}
use Rattle.arena_items.specs.declared.room.Growth.TheVariants as growth
use Rattle.arena_items.specs.declared.room.AllocError.{AllocError}
use Rattle.arena_items.specs.declared.room.AllocError.TheVariants.{AllocErr, CapacityOverflow, OutOfMemory}
use Rattle.arena_items.proofs.RoomLemmas.{zero_or_more, room_leaves, whole_refusal}

-- as many bytes are in use if no cursor moved
pub same_used : (old new : View) → SamePlaces old new → used new ≡ used old
same_used old new same = ap (λ (s : State). used_bytes s) same.state

-- ---- One block

module _ (old new : View) (size align : ℕ) (block : Block) (one : old.memory.state.min_align ≡ 1)
    (layout : IsTrue (is_layout size align)) where
  -- a new block
  placed_brings : (b : Block) → PlacesBlock old new size align (Placed b) → Brings old new size align block
  placed_brings b places =
      grind (arith, one, placed_least old new size align b layout places, placed_most old new size align b layout places)

  module _ (same : block.align ≡ align) where
    -- A block that grows to a layout is not refused as too large.
    not_too_large : growing_of old.memory block size align ≡ Refused → ⊥
    not_too_large is =
        let power = layout_power size align layout in
        let whole : up size old.memory.state.min_align ≡ size = rw one (up_same size 1 (omega arith) (omega arith)) in
        let less : growth old.memory.state block.size size ≤ size = omega (arith, whole) in
        let test : nat_le (up (growth old.memory.state block.size size) align) (2 ^ 63 - 1) ≡ true = grind (
          arith,
          nat_tests,
          up_mono (growth old.memory.state block.size size) size align (power_positive align power) less,
          layout_fits size align layout,
        ) in
        let is_one : is_layout (growth old.memory.state block.size size) block.align ≡ true = rw (same, power, test) refl in
        never (nat_le align block.align && block.addr == cursor_of old.memory.state.chunks) _ (rw is_one at is)
      where
        never : (a : Bool) (o : Option ℕ) → (if a then down_to o else Anew) ≡ Refused → ⊥
        never true None is = cc
        never true (Some q) is = cc
        never false o is = cc

    -- a block that grew, by what became of it
    grown_brings : (b : Block) → block.size ≤ size → GrowsBlock old new block size align (Placed b) → Brings old new size align block
    grown_brings b more grows = by (growing_of old.memory block size align) refl
      where
        by : (way : Resizing) → growing_of old.memory block size align ≡ way → Brings old new size align block
        by Stays is = absurd (growing_stays old.memory.state block.addr block.size block.align size align is)
        by (Moves q) is =
            let least = grown_least old new block b size align q grows is in
            grind (arith, one, same, more, least, grown_most old new block b size align q grows is)
        by Anew is =
            let anew : ResizesBlock Anew old new block size align (Placed b) = rw is at grows in
            grind (arith, one, anew_least old new block b size align layout anew, anew_most old new block b size align layout anew)
        by Refused is = absurd (not_too_large is)

    -- A refused growth is a refused placing of a new block.
    grown_refused : (k : ℕ) → GrowsBlock old new block size align (Denied k) → PlacesBlock old new size align (Denied k)
    grown_refused k grows = by (growing_of old.memory block size align) refl
      where
        by : (way : Resizing) → growing_of old.memory block size align ≡ way → PlacesBlock old new size align (Denied k)
        by Stays is = absurd (growing_stays old.memory.state block.addr block.size block.align size align is)
        by (Moves q) is =
            let moved : ResizesBlock (Moves q) old new block size align (Denied k) = rw is at grows in
            let no : Some q ≡ None = ap (λ (o : Outcome). o.answer)
            (cond_some (moved.0 == 0) (placed old.memory.state q) (fails old.memory.state) moved.1.outcome.1.step).1 in
            cc
        by Anew is =
            let anew : ResizesBlock Anew old new block size align (Denied k) = rw is at grows in
            (anew.0, record { valid = anew.1.valid; outcome = anew.1.outcome })
        by Refused is = absurd (not_too_large is)

    -- So is one that runs out of memory.
    grown_exhausted : GrowsBlock old new block size align Exhausted → PlacesBlock old new size align Exhausted
    grown_exhausted grows = (grows.0, record { valid = grows.1.valid; outcome = grows.1.outcome.1 })

-- ---- Room

module _ (old new : View) (block : Block) (cap size align : ℕ) (one : old.memory.state.min_align ≡ 1)
    (layout : IsTrue (is_layout size align)) (same : block.align ≡ align) where
  -- A block that is taken replaces the old one.
  pub taken_brings : (b : Block) → block.size ≤ size → TakesRoom old new block cap size align (Placed b) → Brings old new size align block
  taken_brings b more takes = elim (zero_or_more cap) [
    | inl none ↦ placed_brings old new size align block one layout b (takes.placed none)
    | inr some ↦ grown_brings old new size align block one layout same b more (takes.grown some)
  ]

  -- A refusal is one of a new block.
  pub taken_refused : {X : Type 0} (f : X → Block) (e : AllocError) → RoomAnswer f (Err e) (TakesRoom old new block cap size align)
      → RoomAnswer f (Err e) (PlacesBlock old new size align)
  taken_refused f (AllocErr k) takes = elim (zero_or_more cap) [
    | inl none ↦ takes.placed none
    | inr some ↦ grown_refused old new size align block one layout same k (takes.grown some)
  ]
  taken_refused f OutOfMemory takes = elim (zero_or_more cap) [
    | inl none ↦ takes.placed none
    | inr some ↦ grown_exhausted old new size align block one layout same (takes.grown some)
  ]
  taken_refused f CapacityOverflow takes = takes

module _ {X : Type 0} (old new : View) (block : Block) (size align cap : ℕ) (f : X → Block) (more : ℕ)
    (one : old.memory.state.min_align ≡ 1) (held : IsHeld (cap * size) align old.memory.state block)
    (layout : IsTrue (is_layout (more * size) align)) where
  -- If the capacity rises, the new block replaces the old one.
  pub room_brings : (x : X) → cap ≤ more → MakesRoom size align old new block cap (growth.GrowsTo more) f (Ok x)
      → Brings old new (more * size) align block
  room_brings x greater made =
      let larger : cap * size ≤ more * size = mul-le-mul_right size greater in
      let equal = same_used made.between new made.places in
      let brings = taken_brings old made.between block cap (more * size) align one layout held.of_align (f x)
      (omega (arith, held.of_size, larger)) made.took in
      record { least = omega (arith, equal, brings.least); most = omega (arith, equal, brings.most) }

  -- A refusal is the arena's, of a new block for that capacity.
  pub room_refused_as : (e : AllocError) → new.memory ≡ old.memory
      → MakesRoom size align old new block cap (growth.GrowsTo more) f (Err e)
      → RoomAnswer f (Err e) (PlacesBlock old new (more * size) align)
  room_refused_as e kept made = whole_refusal f e (more * size) align old made.between new
      (taken_refused old made.between block cap (more * size) align one layout held.of_align f e made.took) made.places kept

-- ---- What a call costs

-- A call that isn't refused costs what it takes and asks for.
placed_costs : {X : Type 0} (far bytes before after : ℕ) (old new : View) (x : X) → used new + after ≤ used old + (bytes + before)
    → AsksWithin (used old + (bytes + before)) old new → Costs far bytes before after old new (Ok x)
placed_costs far bytes before after old new x takes asks =
    record { takes = takes; asks = asks; starved = λ growing k no. absurd (cc); full = λ still k no. absurd (cc) }

-- So one that moves no cursor costs nothing.
pub costs_nothing : {X : Type 0} (far bytes before after : ℕ) (old new : View) (x : X) → SamePlaces old new → after ≤ bytes + before
    → Costs far bytes before after old new (Ok x)
costs_nothing far bytes before after old new x same le =
    placed_costs far bytes before after old new x (omega (arith, same_used old new same)) (asks_same _ old new same.state same.source)

-- the answer that a result represents
some_answer : {X : Type 0} (f : X → Block) (result : Result X AllocError) (P : Answer → Type 0) → RoomAnswer f result P → (a : Answer) × P a
some_answer f (Ok x) P holds = (Placed (f x), holds)
some_answer f (Err (AllocErr k)) P holds = (Denied k, holds)
some_answer f (Err OutOfMemory) P holds = (Exhausted, holds)
some_answer f (Err CapacityOverflow) P holds = absurd holds

module _ {X : Type 0} (old new : View) (block : Block) (size align cap more : ℕ) (f : X → Block) (bytes before after : ℕ)
    (one : old.memory.state.min_align ≡ 1) (held : IsHeld (cap * size) align old.memory.state block) where
  -- what is asked for, whatever the answer
  taken_asks : (result : Result X AllocError) → Covers bytes before after (more * size) align result
      → MakesRoom size align old new block cap (growth.GrowsTo more) f result → AsksWithin (used old + (bytes + before)) old new
  taken_asks result covers made =
      let given = some_answer f result _ made.took in
      let all : View → Type 0 = λ (v : View). AsksWithin (used old + (bytes + before)) old v in
      let first : all made.between = elim (zero_or_more cap) [
        | inl none ↦ asks_placed _ old made.between (more * size) align given.0 covers.layout covers.small
            (omega (arith, covers.within, one)) (given.1.placed none)
        | inr some ↦ asks_resized _ old made.between block (more * size) align covers.layout covers.small
            (omega (arith, covers.within, one)) (growing_of old.memory block (more * size) align) given.0 (given.1.grown some)
      ] in
      asks_then _ old.memory.state made.between.memory.state new.memory.state old.source made.between.source new.source first
      (asks_same _ made.between new made.places.state made.places.source)

  -- A call that takes room costs the bytes of the new block.
  pub room_costs : (result : Result X AllocError) → cap ≤ more → Covers bytes before after (more * size) align result
      → MakesRoom size align old new block cap (growth.GrowsTo more) f result → Costs farthest bytes before after old new result
  room_costs (Ok x) greater covers made =
      let brings = room_brings old new block size align cap f more one held covers.layout x greater made in
      placed_costs _ bytes before after old new x (omega (arith, brings.most, covers.ok)) (taken_asks (Ok x) covers made)
  room_costs (Err e) greater covers made =
      let kept = room_leaves f (Err e) old made.between block cap (more * size) align made.took in
      let equal = same_used made.between new made.places in
      let refusal : (k : ℕ) → e ≡ AllocErr k → PlacesBlock old made.between (more * size) align (Denied k) = λ k same.
      subst (λ e. RoomAnswer f (Err e) (PlacesBlock old made.between (more * size) align)) same
      (taken_refused old made.between block cap (more * size) align one covers.layout held.of_align f e made.took) in
      record {
        takes = omega (arith, equal, ap (λ m. used_bytes m.state) kept, covers.err);
        asks = taken_asks (Err e) covers made;
        starved = λ growing k is. starved_by farthest old.memory.state new.memory.state old.source new.source growing
            (λ low. subst (λ (s : Source). IsRefusedBySource old.source s) (sym made.places.source)
            (placed_starved old made.between (more * size) align k covers.layout covers.small covers.bounded growing (refusal k (cc)) low));
        full = λ still k is.
            let short = placed_full old made.between (more * size) align k covers.layout still (refusal k (cc)) in
            record { still = still; short = omega (arith, short.short, covers.within, one) };
      }

-- ---- More, and together

pub costs_weaken : {X : Type 0} (far near few many before after : ℕ) (old new : View) (result : Result X AllocError) → far ≤ near
    → few ≤ many → Costs near few before after old new result → Costs far many before after old new result
costs_weaken far near few many before after old new result close le costs = record {
  takes = omega (arith, costs.takes);
  asks = asks_more _ _ old.memory.state new.memory.state old.source new.source (omega arith) costs.asks;
  starved = λ growing k is.
      starved_nearer near far old.memory.state new.memory.state old.source new.source close (costs.starved growing k is);
  full = λ still k is. let short = costs.full still k is in record { still = still; short = omega (arith, short.short) };
}

-- For calls that weren't refused the address bound doesn't matter.
pub costs_ok : {X : Type 0} (far near bytes before after : ℕ) (old new : View) (result : Result X AllocError) → IsOk result
    → Costs far bytes before after old new result → Costs near bytes before after old new result
costs_ok far near bytes before after old new (Ok x) ok costs = placed_costs near bytes before after old new x costs.takes costs.asks
costs_ok far near bytes before after old new (Err e) ok costs = absurd (cc)

-- The first call wasn't refused.
pub costs_then : {X Y : Type 0} (far one two before between after : ℕ) (old mid new : View) (first : Result X AllocError)
    (second : Result Y AllocError) → mid.memory.state.is_growing ≡ old.memory.state.is_growing
    → (old.memory.state.is_growing ≡ false → allocated_bytes mid.memory.state ≡ allocated_bytes old.memory.state) → IsOk first
    → Costs far one before between old mid first → Costs (far + 2 ^ 61) two between after mid new second
    → Costs far (one + two) before after old new second
costs_then far one two before between after old mid new (Err e) second growing_is still_is ok costs more = absurd (cc)
costs_then far one two before between after old mid new (Ok x) second growing_is still_is ok costs more = record {
  takes = omega (arith, costs.takes, more.takes);
  asks = asks_then _ old.memory.state mid.memory.state new.memory.state old.source mid.source new.source asks_one asks_two;
  starved = λ growing k is.
      starved_after _ far old.memory.state mid.memory.state new.memory.state old.source mid.source new.source growing asks_one
      more.asks.chunks (more.starved (growing_is ∙ growing) k is);
  full = λ still k is.
      let short = more.full (growing_is ∙ still) k is in
      record { still = still; short = omega (arith, short.short, still_is still, costs.takes) };
}
  where
    asks_one : AsksWithin (used old + (one + two + before)) old mid
    asks_one = asks_more _ _ old.memory.state mid.memory.state old.source mid.source (omega arith) costs.asks

    asks_two : AsksWithin (used old + (one + two + before)) mid new
    asks_two = asks_more _ _ mid.memory.state new.memory.state mid.source new.source (omega (arith, costs.takes)) more.asks
