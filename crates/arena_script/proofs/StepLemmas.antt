-- What is asked of an arena has one answer, if no request is refused.
use Rattle.std.proofs.Common.{arith, ◌≡◌, inl, inr, ℕ, ◌≤◌, refl, sym, ap, ◌∙◌, subst, true, false, eqb-true, Option, Some, None, List, []}
use Rattle.std.specs.Prelude.{◌==◌, if◌then◌else◌, length, slice_get}
use Rattle.std.specs.Option.{option_map}
use Rattle.std.proofs.lemmas.Option.{none-some}
use Rattle.arena_rules.specs.State.{State}
use Rattle.arena_rules.specs.Search.{place, asked}
use Rattle.arena_rules.specs.Moves.{Outcome, Resizing, alloc, alloc_at, alloc_in_new, unasked, placed, stays, fails, growing, resize, with_chunk}
use Rattle.arena_rules.specs.Moves.Resizing.{Stays, Moves, Anew, Refused as Unresized}
use Rattle.arena_rules.specs.Causes.{counted}
use Rattle.arena_chunks.specs.Source.{View}
use Rattle.arena_chunks.specs.Answers.Answer.{Placed, Refused}
use Rattle.arena_store.specs.declared.block.Block.{Block}
use Rattle.arena_items.specs.Asks.{Ask, NoBlock, Fresh, Larger, solid, room_ask, capacity_of, Asked, TakesBlock}
use Rattle.arena_items.specs.Room.{SamePlaces}
use Rattle.arena_items.specs.declared.room.Growth.{Growth}
use Rattle.arena_items.specs.declared.room.Growth.TheVariants.{Stays as NoGrowth, GrowsTo, Overflows}
use Rattle.arena_script.specs.OneOutcome.{bare_state, IsUnrefused}

-- ---- Blocks, asks and outcomes, without generations

abbrev pub bare_block : Option Block → Option Block
bare_block block = option_map (λ (b : Block). record b { generation = 0 }) block

abbrev pub bare_ask : Ask Block → Ask Block
bare_ask NoBlock = NoBlock
bare_ask (Fresh size align) = Fresh size align
bare_ask (Larger b size align) = Larger (record b { generation = 0 }) size align

abbrev bare_outcome : Outcome → Outcome
bare_outcome o = record { answer = o.answer; state = bare_state o.state }

pub bare_capacity : (size : ℕ) (block : Option Block) → capacity_of size (bare_block block) ≡ capacity_of size block
bare_capacity size None = refl
bare_capacity size (Some b) = refl

pub bare_room : (size align : ℕ) (block : Option Block) (growth : Growth)
    → room_ask size align (bare_block block) growth ≡ bare_ask (room_ask size align block growth)
bare_room size align block NoGrowth = refl
bare_room size align None (GrowsTo more) = refl
bare_room size align (Some b) (GrowsTo more) = refl
bare_room size align block Overflows = refl

-- ---- Moves without generations

bare_unasked : (k : ℕ) (o : Outcome) → unasked k (bare_outcome o) ≡ option_map bare_outcome (unasked k o)
bare_unasked k o = elim (k == 0) as (λ b. (if b then Some (bare_outcome o) else None)
    ≡ option_map bare_outcome (if b then Some o else None)) [ true ↦ refl | false ↦ refl ]

module _ (s : State) (size align k : ℕ) where
  bare_alloc : alloc (bare_state s) size align k ≡ option_map bare_outcome (alloc s size align k)
  unfolding alloc asked
  bare_alloc = by (place s size align)
    where
      in_new : (entry : Option (ℕ × ℕ))
          → alloc_in_new entry (bare_state s) size align k ≡ option_map bare_outcome (alloc_in_new entry s size align k)
      in_new (Some entry) = elim (place (with_chunk entry s) size align) as (λ p. option_map (placed (with_chunk entry (bare_state s))) p
          ≡ option_map bare_outcome (option_map (placed (with_chunk entry s)) p)) [ None ↦ refl | Some p ↦ refl ]
      in_new None = elim (k == length (asked s size align)) as (λ b. (if b then Some (fails (bare_state s)) else None)
          ≡ option_map bare_outcome (if b then Some (fails s) else None)) [ true ↦ refl | false ↦ refl ]

      by : (p : Option ℕ) → alloc_at p (bare_state s) size align k ≡ option_map bare_outcome (alloc_at p s size align k)
      by (Some p) = bare_unasked k (placed s p)
      by None = in_new (slice_get (asked s size align) k)

  bare_resize : (w : Resizing) (p : ℕ) → resize w (bare_state s) p size align k ≡ option_map bare_outcome (resize w s p size align k)
  bare_resize Stays p = bare_unasked k (stays s p)
  bare_resize (Moves q) p = bare_unasked k (placed s q)
  bare_resize Anew p = bare_alloc
  bare_resize Unresized p = bare_unasked k (fails s)

-- ---- An arena that doesn't grow makes no request

unasked_none : (k : ℕ) (x o : Outcome) → unasked k x ≡ Some o → k ≡ 0
unasked_none k x o is = elim (k == 0) as (λ b. (k == 0) ≡ b → (if b then Some x else None) ≡ Some o → k ≡ 0) [
  | true ↦ λ test same. eqb-true k 0 test
  | false ↦ λ test same. absurd (none-some o same)
] refl is

module _ (state : State) (still : state.is_growing ≡ false) where
  asked_none : (size align : ℕ) → asked state size align ≡ []
  unfolding asked
  asked_none size align = rw still refl

  alloc_none : (size align k : ℕ) (o : Outcome) → alloc state size align k ≡ Some o → k ≡ 0
  unfolding alloc
  alloc_none size align k o is = by (place state size align) is
    where
      new : (xs : List (ℕ × ℕ)) → xs ≡ [] → (if k == length xs then Some (fails state) else None) ≡ Some o → k ≡ 0
      new xs none same = unasked_none k (fails state) o
          (subst (λ (ys : List (ℕ × ℕ)). (if k == length ys then Some (fails state) else None) ≡ Some o) none same)

      by : (p : Option ℕ) → alloc_at p state size align k ≡ Some o → k ≡ 0
      by (Some p) same = unasked_none k (placed state p) o same
      by None same = new (asked state size align) (asked_none size align)
          (subst (λ (ys : List (ℕ × ℕ)). alloc_in_new (slice_get ys k) state size align k ≡ Some o) (asked_none size align) same)

  resize_none : (w : Resizing) (p size align k : ℕ) (o : Outcome) → resize w state p size align k ≡ Some o → k ≡ 0
  resize_none Stays p size align k o is = unasked_none k (stays state p) o is
  resize_none (Moves q) p size align k o is = unasked_none k (placed state q) o is
  resize_none Anew p size align k o is = alloc_none size align k o is
  resize_none Unresized p size align k o is = unasked_none k (fails state) o is

-- ---- What is asked for

abbrev way_of : Block → (size align : ℕ) → State → Resizing
way_of b size align s = growing s b.addr b.size b.align size align

abbrev step_of : Ask Block → State → ℕ → Option Outcome
step_of NoBlock s k = None
step_of (Fresh size align) s k = alloc s size align k
step_of (Larger b size align) s k = resize (way_of b size align s) s b.addr size align k

bare_step : (ask : Ask Block) (s : State) (k : ℕ) → step_of (bare_ask ask) (bare_state s) k ≡ option_map bare_outcome (step_of ask s k)
bare_step NoBlock s k = refl
bare_step (Fresh size align) s k = bare_alloc s size align k
bare_step (Larger b size align) s k = bare_resize s size align k (way_of b size align s) b.addr

step_none : (ask : Ask Block) (s : State) (k : ℕ) (o : Outcome) → s.is_growing ≡ false → step_of ask s k ≡ Some o → k ≡ 0
step_none NoBlock s k o still is = absurd (none-some o is)
step_none (Fresh size align) s k o still is = alloc_none s still size align k o is
step_none (Larger b size align) s k o still is = resize_none s still (way_of b size align s) b.addr size align k o is

-- The step of an ask with this answer, after `k` refusals.
record IsStep (ask : Ask Block) (old new : View) (answer : Option ℕ) : Type 0 where
  k : ℕ
  step : step_of ask old.memory.state k ≡ Some (record { answer = answer; state = new.memory.state })
  refusals : new.source.refusals ≡ counted old.source.refusals k
  growing : new.memory.state.is_growing ≡ old.memory.state.is_growing

-- Writes before and after it change nothing.
step_between : (ask : Ask Block) (old start between new : View) (answer : Option ℕ) → SamePlaces old start → SamePlaces between new
    → IsStep ask start between answer → IsStep ask old new answer
step_between ask old start between new answer written places is = record {
  k = is.k;
  step = ap (λ s. step_of ask s is.k) (sym written.state) ∙ is.step
      ∙ ap (λ (s : State). Some (record { answer = answer; state = s })) (sym places.state);
  refusals = ap (λ source. source.refusals) places.source ∙ is.refusals ∙ ap (λ source. counted source.refusals is.k) written.source;
  growing = ap (λ (s : State). s.is_growing) places.state ∙ is.growing ∙ ap (λ (s : State). s.is_growing) written.state;
}

-- a block that is given, of the size and alignment that were asked for
record IsGiven (ask : Ask Block) (old new : View) (b : Block) (size align : ℕ) : Type 0 where
  step : IsStep ask old new (Some b.addr)
  of_size : b.size ≡ size
  of_align : b.align ≡ align

module _ (old new : View) where
  given_new : (b : Block) (size align : ℕ) → Asked (Fresh size align) old new (Placed b) → IsGiven (Fresh size align) old new b size align
  given_new b size align is = let call = is.answers.1.outcome in record {
    step = step_between (Fresh size align) old is.start is.between new (Some b.addr) is.written is.places (record {
      k = is.answers.0;
      step = call.step;
      refusals = call.asked.refusals;
      growing = call.frame.is_growing;
    });
    of_size = call.of_layout.of_size;
    of_align = call.of_layout.of_align;
  }

  given_larger : (c b : Block) (size align : ℕ) → Asked (Larger c size align) old new (Placed b)
      → IsGiven (Larger c size align) old new b size align
  given_larger c b size align is = let call = is.answers.1.outcome in record {
    step = step_between (Larger c size align) old is.start is.between new (Some b.addr) is.written is.places (record {
      k = is.answers.0;
      step = call.step;
      refusals = call.asked.refusals;
      growing = call.frame.is_growing;
    });
    of_size = call.of_layout.of_size;
    of_align = call.of_layout.of_align;
  }

  -- a refusal leaves the state
  refused : (ask : Ask Block) (start between : View) (k : ℕ) → SamePlaces old start → SamePlaces between new
      → step_of ask start.memory.state k ≡ Some (record { answer = None; state = start.memory.state })
      → between.source.refusals ≡ counted start.source.refusals k → between.memory ≡ start.memory
      → IsStep ask old new None × (new.memory.state ≡ old.memory.state)
  refused ask start between k written places step refusals memory = let same = ap (λ m. m.state) memory in (
    step_between ask old start between new None written places (record {
      k = k;
      step = step ∙ ap (λ (s : State). Some (record { answer = None; state = s })) (sym same);
      refusals = refusals;
      growing = ap (λ (s : State). s.is_growing) same;
    }),
    places.state ∙ same ∙ written.state,
  )

  refused_step : (ask : Ask Block) (k : ℕ) → Asked ask old new (Refused k)
      → IsStep ask old new None × (new.memory.state ≡ old.memory.state)
  refused_step NoBlock k is = absurd is.answers
  refused_step (Fresh size align) k is =
      let call = is.answers.1.outcome.1 in
      refused (Fresh size align) is.start is.between is.answers.0 is.written is.places call.step call.asked.refusals call.memory
  refused_step (Larger c size align) k is =
      let call = is.answers.1.outcome.1 in
      refused (Larger c size align) is.start is.between is.answers.0 is.written is.places call.step call.asked.refusals call.memory

-- ---- Calls after one another

-- The arena keeps its kind, and its source's refusals are never fewer.
pub record GoesOn (old new : View) : Type 0 where
  pub growing : new.memory.state.is_growing ≡ old.memory.state.is_growing
  pub refusals : old.source.refusals ≤ new.source.refusals

pub goes_same : (old new : View) → new ≡ old → GoesOn old new
goes_same old new is = subst (λ v. GoesOn old v) (sym is) (record { growing = refl; refusals = omega arith })

pub goes_then : (old mid new : View) → GoesOn old mid → GoesOn mid new → GoesOn old new
goes_then old mid new one two = record { growing = two.growing ∙ one.growing; refusals = omega (arith, one.refusals, two.refusals) }

step_goes : (ask : Ask Block) (old new : View) (answer : Option ℕ) → IsStep ask old new answer → GoesOn old new
step_goes ask old new answer is = record { growing = is.growing; refusals = omega (arith, is.refusals) }

-- both parts of what is refused nothing
pub unrefused_parts : (old mid new : View) → GoesOn old mid → GoesOn mid new → IsUnrefused old new
    → IsUnrefused old mid × IsUnrefused mid new
unrefused_parts old mid new one two (inl still) = (inl still, inl (one.growing ∙ still))
unrefused_parts old mid new one two (inr (same, less)) =
    let equal : mid.source.refusals ≡ old.source.refusals = omega (arith, one.refusals, two.refusals, same) in
    (inr (equal, omega (arith, equal, same, less)), inr (omega (arith, equal, same), less))

-- no request is refused
step_at_once : (ask : Ask Block) (old new : View) (answer : Option ℕ) → IsUnrefused old new → IsStep ask old new answer
    → step_of (bare_ask ask) (bare_state old.memory.state) 0 ≡ Some (record { answer = answer; state = bare_state new.memory.state })
step_at_once ask old new answer none is = bare_step ask old.memory.state 0
    ∙ ap (option_map bare_outcome) (subst (λ k. step_of ask old.memory.state k
    ≡ Some (record { answer = answer; state = new.memory.state })) (at_once none) is.step)
  where
    at_once : IsUnrefused old new → is.k ≡ 0
    at_once (inl still) = step_none ask old.memory.state is.k _ still is.step
    at_once (inr (same, less)) = omega (arith, is.refusals, same, less)

-- ---- What is left, without generations

-- something, and the state that is left
pub record Left (X : Type 0) : Type 0 where
  pub is : X
  pub state : State

-- the block for an ask of this size and this alignment
abbrev given : (size align : ℕ) → Option Outcome → Option (Left (Option Block))
given size align None = None
given size align (Some o) = option_map (λ p. record {
  is = solid (record { generation = 0; addr = p; size = size; align = align });
  state = o.state;
}) o.answer

-- the block that a name has afterwards, if there is a place
abbrev pub taken : Ask Block → Option Block → State → Option (Left (Option Block))
taken NoBlock before s = Some (record { is = before; state = s })
taken (Fresh size align) before s = given size align (step_of (Fresh size align) s 0)
taken (Larger b size align) before s = given size align (step_of (Larger b size align) s 0)

bare_solid : (b : Block) → bare_block (solid b) ≡ solid (record b { generation = 0 })
bare_solid b = elim (b.size == 0) as (λ t. bare_block (if t then None else Some b)
    ≡ (if t then None else Some (record b { generation = 0 }))) [ true ↦ refl | false ↦ refl ]

given_is : (ask : Ask Block) (old new : View) (b : Block) (size align : ℕ) (after : Option Block) → IsUnrefused old new
    → after ≡ solid b → IsGiven ask old new b size align
    → given size align (step_of (bare_ask ask) (bare_state old.memory.state) 0)
    ≡ Some (record { is = bare_block after; state = bare_state new.memory.state })
given_is ask old new b size align after none after_is is =
    let block : solid (record { generation = 0; addr = b.addr; size = size; align = align }) ≡ bare_block after =
    (λ i. solid (record { generation = 0; addr = b.addr; size = sym is.of_size i; align = sym is.of_align i }))
    ∙ sym (bare_solid b) ∙ ap bare_block (sym after_is) in
    ap (given size align) (step_at_once ask old new (Some b.addr) none is.step)
    ∙ ap (λ o. Some (record { is = o; state = bare_state new.memory.state })) block

module _ (before after : Option Block) (old new : View) where
  pub takes_goes : (ask : Ask Block) → TakesBlock ask before old new after → GoesOn old new
  takes_goes NoBlock (is, same) = record {
    growing = ap (λ (s : State). s.is_growing) same.state;
    refusals = omega (arith, ap (λ source. source.refusals) same.source);
  }
  takes_goes (Fresh size align) (b, is, asked) = step_goes (Fresh size align) old new (Some b.addr) (given_new old new b size align asked).step
  takes_goes (Larger c size align) (b, is, asked) =
      step_goes (Larger c size align) old new (Some b.addr) (given_larger old new c b size align asked).step

  pub takes_left : (ask : Ask Block) → IsUnrefused old new → TakesBlock ask before old new after
      → taken (bare_ask ask) (bare_block before) (bare_state old.memory.state)
      ≡ Some (record { is = bare_block after; state = bare_state new.memory.state })
  takes_left NoBlock none (is, same) = λ i. Some (record { is = bare_block (sym is i); state = bare_state (sym same.state i) })
  takes_left (Fresh size align) none (b, is, asked) =
      given_is (Fresh size align) old new b size align after none is (given_new old new b size align asked)
  takes_left (Larger c size align) none (b, is, asked) =
      given_is (Larger c size align) old new b size align after none is (given_larger old new c b size align asked)

-- where the arena refuses it
pub denied_left : (ask : Ask Block) (before : Option Block) (old new : View) (k : ℕ) → IsUnrefused old new → Asked ask old new (Refused k)
    → taken (bare_ask ask) before (bare_state old.memory.state) ≡ None
denied_left NoBlock before old new k none asked = absurd asked.answers
denied_left (Fresh size align) before old new k none asked = ap (given size align)
    (step_at_once (Fresh size align) old new None none (refused_step old new (Fresh size align) k asked).0)
denied_left (Larger c size align) before old new k none asked = ap (given size align)
    (step_at_once (Larger c size align) old new None none (refused_step old new (Larger c size align) k asked).0)

pub denied_same : (ask : Ask Block) (old new : View) (k : ℕ) → Asked ask old new (Refused k) → new.memory.state ≡ old.memory.state
denied_same ask old new k asked = (refused_step old new ask k asked).1

pub denied_goes : (ask : Ask Block) (old new : View) (k : ℕ) → Asked ask old new (Refused k) → GoesOn old new
denied_goes ask old new k asked = step_goes ask old new None (refused_step old new ask k asked).0
