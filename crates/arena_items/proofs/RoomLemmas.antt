-- Blocks of collections that grow: the one call of the arena, what it leaves, and calls that write afterwards.
use Rattle.std.proofs.Common.{◌≡◌, ℕ, Result, zero, suc, ◌*◌, ◌<◌, ◌≤◌, ◌⊎◌, inl, inr, ap, sym, subst, ◌∙◌, List, [], ◌∷◌, Ok, Err, refl, take, arith, IsTrue}
use Rattle.std.specs.Prelude.{min, OnErr}
use Rattle.std.proofs.lemmas.Bool.{eq-eqb, or_left}
use Rattle.arena_rules.specs.State.{State}
use Rattle.arena_chunks.specs.Memory.{Memory, image, bytes_from, is_readable}
use Rattle.arena_chunks.specs.Source.{View}
use Rattle.arena_chunks.specs.Answers.{Answer, answer_by}
use Rattle.arena_chunks.specs.Answers.Answer.{Placed}
use Rattle.arena_chunks.specs.BlockCalls.{PlacesBlock, WritesBlock}
use Rattle.arena_chunks.specs.Frame.{Frame}
use Rattle.arena_store.specs.declared.block.Block.{Block}
use Rattle.arena_store.specs.declared.block.ArenaErr.{ArenaErr}
use Rattle.arena_store.specs.declared.block.ArenaErr.TheVariants.{AllocErr as NoPlace, OutOfMemory as NoTable}
use Rattle.arena_chunks.proofs.Layers.{empty_before, take_bytes, in_use}
use Rattle.arena_items.specs.Values.{bytes_of, elements, IsHeld}
use Rattle.arena_items.specs.Placing.{Answers}
use Rattle.arena_items.specs.Room.{TakesRoom, MakesRoom, SamePlaces, RoomAnswer, growth_answer, growth_error}
use Rattle.arena_items.specs.declared.placing.ItemErr.{ItemErr}
use Rattle.arena_items.specs.declared.placing.ItemErr.TheVariants.{AllocErr as NotPlaced, OutOfMemory as NoMemory, TooFew}
use Rattle.arena_items.specs.declared.room.Growth.{Growth}
use Rattle.arena_items.specs.declared.room.Growth.TheVariants.{Stays, GrowsTo, Overflows}
use Rattle.arena_items.specs.declared.room.AllocError.{AllocError}
use Rattle.arena_items.specs.declared.room.AllocError.TheVariants.{AllocErr, CapacityOverflow, OutOfMemory}
use Rattle.arena_items.proofs.PlacingLemmas.{placed_held}
use Rattle.arena_items.proofs.ElementLemmas.{elements-same}

-- a number is 0 or more
pub zero_or_more : (n : ℕ) → (n ≡ 0) ⊎ (0 < n)
zero_or_more zero = inl refl
zero_or_more (suc n) = inr (omega arith)

-- ---- Blocks

-- A front of a readable block is readable.
pub front_readable : (state : State) (b : Block) (n : ℕ) → IsTrue (is_readable state b) → n ≤ b.size
    → IsTrue (is_readable state (record b { size = n }))
front_readable state b n readable within = elim (zero_or_more n) [
  | inl none ↦ or_left _ _ (eq-eqb n 0 none)
  | inr some ↦ (
      let used = (in_use state b (omega (arith, some, within))).0 readable in
      (in_use state (record b { size = n }) some).1 (record {
        generation = used.generation;
        chunk = used.chunk;
        among = used.among;
        low = used.low;
        high = omega (arith, used.high, within);
      }))
]

-- ---- Fronts

-- Blocks that begin with the same bytes have the same fronts,
pub fronts_kept : (old new : Memory) (b c : Block) (n k : ℕ) → n ≤ k → k ≤ b.size → k ≤ c.size
    → bytes_from (image new) c.addr k ≡ bytes_from (image old) b.addr k
    → take n (bytes_of new c) ≡ take n (bytes_of old b)
fronts_kept old new b c n k seen less fits same = first new c fits ∙ ap (take n) same ∙ sym (first old b less)
  where
    first : (m : Memory) (d : Block) → k ≤ d.size → take n (bytes_of m d) ≡ take n (bytes_from (image m) d.addr k)
    first m d within = take_bytes (image m) d.addr d.size n (omega arith) ∙ sym (take_bytes (image m) d.addr k n seen)

-- and the same values there.
pub values_kept : {T : Type 0} (dec : List ℕ → T) (old new : Memory) (b c : Block) (size n k : ℕ) → n * size ≤ k → k ≤ b.size → k ≤ c.size
    → bytes_from (image new) c.addr k ≡ bytes_from (image old) b.addr k
    → elements size dec n (bytes_of new c) ≡ elements size dec n (bytes_of old b)
values_kept dec old new b c size n k seen less fits same =
    elements-same size dec n (bytes_of new c) (bytes_of old b) (fronts_kept old new b c (n * size) k seen less fits same)

-- ---- A block taken for more

module _ (old new : View) (b c : Block) (cap size align : ℕ) (takes : TakesRoom old new b cap size align (Placed c)) where
  -- It has its layout.
  pub taken_held : IsHeld size align new.memory.state c
  taken_held = elim (zero_or_more cap) [
    | inl none ↦ placed_held old new size align c (takes.placed none)
    | inr some ↦ grind (arith, (takes.grown some).1.outcome.of_layout)
  ]

  -- All but the collection's block is as it was.
  pub taken_frame : (cap ≡ 0 → b.size ≡ 0) → Frame old.memory new.memory (b ∷ []) (c ∷ [])
  taken_frame no_bytes = elim (zero_or_more cap) [
    | inl none ↦ (empty_before old.memory new.memory [] [] (c ∷ []) b (no_bytes none)).1 (takes.placed none).1.outcome.frame
    | inr some ↦ (takes.grown some).1.outcome.frame
  ]

  -- The bytes of the old block are at the front of the new one.
  pub taken_front : (cap ≡ 0 → b.size ≡ 0) → (n : ℕ) → n ≤ b.size → b.size ≤ size
      → take n (bytes_of new.memory c) ≡ take n (bytes_of old.memory b)
  taken_front no_bytes n within more = elim (zero_or_more cap) [
    | inl none ↦ (let zero : n ≡ 0 = omega (arith, no_bytes none) in rw zero refl)
    | inr some ↦ (
        let grown = (takes.grown some).1.outcome in
        let least : min b.size size ≡ b.size = omega arith in
        fronts_kept old.memory new.memory b c n b.size within (omega arith) (omega (arith, grown.of_layout.of_size))
        (rw least at grown.bytes))
  ]

-- A refusal leaves the memory as it was,
pub room_leaves : {X : Type 0} (f : X → Block) (result : Result X AllocError) (old new : View) (b : Block) (cap size align : ℕ)
    → RoomAnswer f result (TakesRoom old new b cap size align) → OnErr result (new.memory ≡ old.memory)
room_leaves f (Ok x) old new b cap size align takes = tt
room_leaves f (Err (AllocErr k)) old new b cap size align takes = elim (zero_or_more cap) [
  | inl none ↦ (takes.placed none).1.outcome.1.memory
  | inr some ↦ (takes.grown some).1.outcome.1.memory
]
room_leaves f (Err OutOfMemory) old new b cap size align takes = elim (zero_or_more cap) [
  | inl none ↦ ap (λ v. v.memory) (takes.placed none).1.outcome.same
  | inr some ↦ ap (λ v. v.memory) (takes.grown some).1.outcome.1.same
]
room_leaves f (Err CapacityOverflow) old new b cap size align takes = absurd takes

-- also that of a new block.
pub refusal_leaves : {X : Type 0} (f : X → Block) (e : AllocError) (size align : ℕ) (old new : View)
    → RoomAnswer f (Err e) (PlacesBlock old new size align) → new.memory ≡ old.memory
refusal_leaves f (AllocErr k) size align old new places = places.1.outcome.1.memory
refusal_leaves f OutOfMemory size align old new places = ap (λ v. v.memory) places.1.outcome.same
refusal_leaves f CapacityOverflow size align old new places = absurd places

-- two views of the same memory and the same source are equal
same_view : (a b : View) → a.memory ≡ b.memory → a.source ≡ b.source → a ≡ b
same_view a b m s = λ i. record { memory = m i; source = s i }

-- A refusal that leaves the memory is the whole call: nothing was written after it.
pub whole_refusal : {X : Type 0} (f : X → Block) (e : AllocError) (size align : ℕ) (old between new : View)
    → RoomAnswer f (Err e) (PlacesBlock old between size align) → SamePlaces between new → new.memory ≡ old.memory
    → RoomAnswer f (Err e) (PlacesBlock old new size align)
whole_refusal f e size align old between new places same kept =
    subst (λ v. RoomAnswer f (Err e) (PlacesBlock old v size align))
    (same_view between new (refusal_leaves f e size align old between places ∙ sym kept) (sym same.source)) places

-- ---- Answers

-- What holds of the arena's answer holds of the one that the growth's result represents.
pub grown_as : {X : Type 0} (f : X → Block) (answer : Result X ArenaErr) (P : Answer → Type 0) → P (answer_by f answer)
    → RoomAnswer f (growth_answer answer) P
grown_as f (Ok x) P holds = holds
grown_as f (Err (NoPlace refused)) P holds = holds
grown_as f (Err NoTable) P holds = holds

-- What holds of the answer of a failed placing holds of the growth's error.
pub refused_as : {X Y : Type 0} (f : X → Block) (g : Y → Block) (e : ItemErr) (P : Answer → Type 0) → Answers {X = X} f (Err e) P
    → RoomAnswer {X = Y} g (Err (growth_error e)) P
refused_as f g (NotPlaced refused) P holds = holds
refused_as f g NoMemory P holds = holds
refused_as f g (TooFew taken) P holds = absurd holds

-- ---- Places

pub same_then : (old mid new : View) → SamePlaces old mid → SamePlaces mid new → SamePlaces old new
same_then old mid new one two = grind (arith, one, two)

-- A write moves no cursor.
pub wrote_same : (old new : View) (b : Block) (at : ℕ) (list : List ℕ) → WritesBlock old.memory new.memory b at list
    → new.source ≡ old.source → SamePlaces old new
wrote_same old new b at list writes source = record { state = writes.state; statistics = writes.statistics; source = source }

-- Making room and then writing is making room.
pub room_then : {X Y : Type 0} (size align : ℕ) (old mid new : View) (block : Block) (cap : ℕ) (growth : Growth) (f : X → Block)
    (g : Y → Block) (x : X) (y : Y) → g y ≡ f x → MakesRoom size align old mid block cap growth f (Ok x) → SamePlaces mid new
    → MakesRoom size align old new block cap growth g (Ok y)
room_then size align old mid new block cap Stays f g x y is made same = (is ∙ made.0, same_then old mid new made.1 same)
room_then size align old mid new block cap (GrowsTo more) f g x y is made same =
    record { between = made.between; took = rw is made.took; places = same_then made.between mid new made.places same }
room_then size align old mid new block cap Overflows f g x y is made same = absurd (let no = made.0 in cc)

-- A refusal doesn't depend on the result's type.
pub room_refused : {X Y : Type 0} (size align : ℕ) (old new : View) (block : Block) (cap : ℕ) (growth : Growth) (f : X → Block)
    (g : Y → Block) (e : AllocError)
    → MakesRoom size align old new block cap growth f (Err e) → MakesRoom size align old new block cap growth g (Err e)
room_refused size align old new block cap Stays f g e made = absurd made.0
room_refused size align old new block cap (GrowsTo more) f g (AllocErr refused) made = made
room_refused size align old new block cap (GrowsTo more) f g OutOfMemory made = made
room_refused size align old new block cap (GrowsTo more) f g CapacityOverflow made = absurd made.took
room_refused size align old new block cap Overflows f g e made =
    (let is : e ≡ CapacityOverflow = (let no = made.0 in cc) in ap Err is, made.1)
