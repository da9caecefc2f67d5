-- What calls of a command cost: one block, or none.
use Rattle.std.proofs.lemmas.Bool.Decides.{nat_tests}
use Rattle.std.proofs.Common.{◌≡◌, ◌≢◌, ℕ, ◌+◌, ◌-◌, ◌*◌, ◌^◌, ◌≤◌, refl, ap, ◌∙◌, subst, arith, IsTrue, Result, Ok, Err}
use Rattle.std.specs.Prelude.{IsErrAnd}
use Rattle.arena_rules.specs.Rounding.{is_layout}
use Rattle.arena_rules.specs.State.{State, used_bytes}
use Rattle.arena_rules.proofs.AskingLemmas.{asks_more, asks_then}
use Rattle.arena_rules.proofs.GrownLemmas.{alloc_failed}
use Rattle.arena_rules.proofs.RoundingLemmas.{layout_power}
use Rattle.arena_chunks.specs.Source.{View}
use Rattle.arena_chunks.specs.Answers.{Answer}
use Rattle.arena_chunks.specs.Answers.Answer.{Placed, Refused}
use Rattle.arena_chunks.specs.BlockCalls.{PlacesBlock}
use Rattle.arena_store.specs.declared.block.Block.{Block}
use Rattle.arena_chunks.proofs.Layers.{asks_same}
use Rattle.arena_items.specs.Asks.{refusal}
use Rattle.arena_items.specs.Costs.{Costs, farthest}
use Rattle.arena_items.specs.Room.{MakesRoom, TakesRoom, RoomAnswer, SamePlaces, capacity_after}
use Rattle.arena_items.specs.Values.{IsHeld}
use Rattle.arena_items.specs.declared.room.Growth.{Growth}
use Rattle.arena_items.specs.declared.room.Growth.TheVariants.{Stays, GrowsTo, Overflows}
use Rattle.arena_items.specs.declared.room.AllocError.{AllocError}
use Rattle.arena_items.specs.declared.room.AllocError.TheVariants.{AllocErr, CapacityOverflow, OutOfMemory}
use Rattle.arena_items.proofs.Layers.{costs_nothing, room_brings, room_costs, taken_refused, costs_weaken}
use Rattle.script_rules.specs.declared.commands.Command.{Command}
use Rattle.arena_script.specs.Things.{Things}
use Rattle.arena_script.specs.Acts.{used, far, CostsGiven, CostsRefused, HasNoPlace, GivesNothing, Acts}
use Rattle.arena_script.specs.declared.act.Act.{Act}

-- the same bytes are in use where no cursor moved
pub same_used : (old new : View) → SamePlaces old new → used new ≡ used old
same_used old new same = ap (λ (s : State). used_bytes s) same.state

-- Nothing is taken.
pub nothing_given : (cost before after : ℕ) (old new : View) → SamePlaces old new → after ≤ cost + before → CostsGiven cost before after
    old new
nothing_given cost before after old new same le = costs_nothing far cost before after old new tt same le

-- An unrelated credit stays, and some of the credit afterwards may be dropped.
pub costs_beside : {X : Type 0} (near cost before after more later rest : ℕ) (old new : View) (result : Result X AllocError)
    → before + rest ≡ more → later ≤ after + rest → Costs near cost before after old new result → Costs near cost more later old new result
costs_beside near cost before after more later rest old new result sum less costs = grind (arith, nat_tests, asks_more)

-- Writes before it moved no cursor.
pub costs_from : {X : Type 0} (near cost before after : ℕ) (old start new : View) (result : Result X AllocError) → SamePlaces old start
    → Costs near cost before after start new result → Costs near cost before after old new result
costs_from near cost before after old start new result written costs = grind (arith, nat_tests, same_used, asks_then, asks_same, asks_more)

-- ---- A call that is refused

-- A call gives nothing though its cost and credit would pay: not for an overflow, and nothing came into use.
pub record IsRefused (cost before : ℕ) (old new : View) (e : AllocError) : Type 0 where
  pub fits : e ≢ CapacityOverflow
  pub costs : CostsRefused cost before before old new e
  pub denied : (k : ℕ) → e ≡ AllocErr k → HasNoPlace (used old + (cost + before)) new
  pub same : new.memory.state ≡ old.memory.state

-- A refusal is passed on.
pub not_given : {command : Command} {things : Things} {old new : View} {e : AllocError} (result : Result Act AllocError)
    → IsErrAnd result (λ x. x ≡ e) → GivesNothing command things old new e → Acts command things old new result
not_given result is gives = grind (arith, nat_tests)

-- what a call that is refused leaves
pub unchanged : {X : Type 0} (old new : View) (size align : ℕ) (f : X → Block) (e : AllocError)
    → RoomAnswer f (Err e) (PlacesBlock old new size align) → new.memory ≡ old.memory
unchanged old new size align f e places = grind (arith, nat_tests)

-- ---- Room by a growth

-- What a growth asks for, if anything, is paid by the cost and the credit, and so is the credit afterwards.
abbrev pub IsPaid : (size align cap : ℕ) → Growth → (cost before after : ℕ) → Type 0
IsPaid size align cap Stays cost before after = after ≤ cost + before
IsPaid size align cap (GrowsTo more) cost before after = (cap ≤ more) × IsTrue (is_layout (more * size) align)
    × (more * size ≤ 2 ^ 60) × (more * size + (align - 1) + after ≤ cost + before)
IsPaid size align cap Overflows cost before after = ⊥

module _ {X : Type 0} (old new : View) (block : Block) (size align cap : ℕ) (f : X → Block) (cost before after : ℕ)
    (one : old.memory.state.min_align ≡ 1) (held : IsHeld (cap * size) align old.memory.state block) (small : align ≤ 16) where
  pub grown_least : (growth : Growth) (x : X) → IsPaid size align cap growth cost before after
      → (f x).size ≡ capacity_after growth cap * size → MakesRoom size align old new block cap growth f (Ok x)
      → used old + (f x).size ≤ used new + block.size
  grown_least growth x paid sized made = grind (arith, nat_tests, same_used, room_brings)

  pub grown_costs : (growth : Growth) (x : X) → IsPaid size align cap growth cost before after
      → MakesRoom size align old new block cap growth f (Ok x) → CostsGiven cost before after old new
  grown_costs Stays x paid made = nothing_given cost before after old new made.1 paid
  grown_costs (GrowsTo more) x (greater, layout, bounded, paid) made =
      costs_weaken far farthest cost cost before after old new (Ok tt) (omega arith) (omega arith)
      (room_costs old new block size align cap more (λ (u : Unit {0}). f x) cost before after one held (Ok tt) greater (record {
        layout = layout;
        small = small;
        bounded = bounded;
        within = omega (arith, paid);
        ok = paid;
        err = tt;
      }) (record { between = made.between; took = made.took; places = made.places }))
  grown_costs Overflows x paid made = absurd paid

  pub grown_refused : (growth : Growth) (e : AllocError) → IsPaid size align cap growth cost before after
      → new.memory.state ≡ old.memory.state → MakesRoom size align old new block cap growth f (Err e) → IsRefused cost before old new e
  grown_refused Stays e paid same made = absurd made.0
  grown_refused Overflows e paid same made = absurd paid
  grown_refused (GrowsTo more) e (greater, layout, bounded, paid) same made = let is = as_unit e made in record {
    fits = is.0;
    costs = costs_weaken far farthest cost cost before before old new (Err e) (omega arith) (omega arith)
        (room_costs old new block size align cap more (λ (u : Unit {0}). block) cost before before one held (Err e) greater (record {
          layout = layout;
          small = small;
          bounded = bounded;
          within = omega (arith, paid);
          ok = tt;
          err = omega arith;
        }) is.1);
    denied = is.2;
    same = same;
  }
    where
      as_unit : (e : AllocError) → MakesRoom size align old new block cap (GrowsTo more) f (Err e) → (e ≢ CapacityOverflow)
          × MakesRoom {X = Unit {0}} size align old new block cap (GrowsTo more) (λ _. block) (Err e)
          × ((k : ℕ) → e ≡ AllocErr k → HasNoPlace (used old + (cost + before)) new)
      as_unit (AllocErr k) made =
          let places : PlacesBlock old made.between (more * size) align (Refused k) =
          taken_refused old made.between block cap (more * size) align one layout held.of_align f (AllocErr k) made.took in
          let failed = alloc_failed old.memory.state old.memory.state (more * size) align places.0 places.1.valid.entry
          (layout_power (more * size) align layout) places.1.outcome.1.step in (
            (λ is. cc),
            record { between = made.between; took = made.took; places = made.places },
            (λ j is. record {
              size = more * size;
              align = align;
              layout = layout;
              within = omega (arith, paid, ap (λ (s : State). used_bytes s) same);
              none = rw same failed.none;
            }),
          )
      as_unit OutOfMemory made =
          ((λ is. cc), record { between = made.between; took = made.took; places = made.places }, (λ j is. absurd (cc)))
      as_unit CapacityOverflow made = absurd made.took

-- ---- A new block: room that is taken where there was none

module _ (old between new : View) (size align : ℕ) (cost before after : ℕ) (one : old.memory.state.min_align ≡ 1)
    (layout : IsTrue (is_layout size align)) (small : align ≤ 16) (bounded : size ≤ 2 ^ 60)
    (paid : size + (align - 1) + after ≤ cost + before) (same : SamePlaces between new) where
  abbrev nowhere : Block
  nowhere = record { generation = 0; addr = align; size = 0; align = align }

  nowhere_held : IsHeld (0 * size) align old.memory.state nowhere
  nowhere_held = record { readable = refl; of_size = omega arith; of_align = refl }

  whole : size ≡ 1 * size
  whole = omega arith

  taken : (answer : Answer) → PlacesBlock old between size align answer → TakesRoom old between nowhere 0 (1 * size) align answer
  taken answer places = grind (arith, nat_tests, whole)

  one_paid : IsPaid size align 0 (GrowsTo 1) cost before after
  one_paid = (omega arith, subst (λ n. IsTrue (is_layout n align)) whole layout, omega (arith, bounded), omega (arith, paid))

  pub block_given : (b : Block) → PlacesBlock old between size align (Placed b) → CostsGiven cost before after old new
  block_given b places = grown_costs old new nowhere size align 0 (λ (x : Block). x) cost before after one nowhere_held small
      (GrowsTo 1) b one_paid (record { between = between; took = taken (Placed b) places; places = same })

  pub block_refused : {X : Type 0} (f : X → Block) (e : AllocError) → RoomAnswer f (Err e) (PlacesBlock old between size align)
      → IsRefused cost before old new e
  block_refused f CapacityOverflow places = absurd places
  block_refused f e places = grown_refused old new nowhere size align 0 f cost before after one nowhere_held small (GrowsTo 1) e one_paid
      (same.state ∙ ap (λ m. m.state) (unchanged old between size align f e places))
      (record { between = between; took = taken (refusal e) places; places = same })
