-- Calls that ask for one block after another: two of them in turn, one that is refused, and one block.
use Rattle.std.proofs.Common.{◌≡◌, ℕ, ap, sym, refl, subst, ◌∙◌, Option, Some, None, List, [], ◌∷◌, ◌++◌, Ok, Err, append-nil}
use Rattle.std.specs.Prelude.{Result, OnErr}
use Rattle.arena_chunks.specs.Source.{View}
use Rattle.arena_chunks.specs.Answers.{Answer}
use Rattle.arena_chunks.specs.Answers.Answer.{Placed, Refused, Exhausted}
use Rattle.arena_chunks.specs.BlockCalls.{PlacesBlock}
use Rattle.arena_store.specs.declared.block.Block.{Block}
use Rattle.arena_items.specs.Room.{RoomAnswer, Took, SamePlaces}
use Rattle.arena_items.specs.declared.room.AllocError.{AllocError}
use Rattle.arena_items.specs.declared.room.AllocError.TheVariants.{AllocErr, CapacityOverflow, OutOfMemory}
use Rattle.arena_items.proofs.Layers.{same_then}
use Rattle.arena_kinds.specs.Asks.{Ask, Follows, Takes, AsksFor, refusal}
use Rattle.arena_kinds.specs.Asks.Ask.{Room, Table, NoBytes, Empty, TooMuch}

pub same_places : (a : View) → SamePlaces a a
same_places a = record { state = refl; statistics = refl; source = refl }

-- ---- One block among others

-- One block is asked for, and this is the answer.
takes_one : {size align : ℕ} {old new : View} {bs : List Block} {end : Option AllocError} {goes : View → List Block → Type 0}
    (answer : Answer) → PlacesBlock old new size align answer → Follows answer new new bs end (goes new)
    → Takes size align old new bs end goes
takes_one {old} {new} answer places then =
    record { start = old; between = new; answer = answer; written = same_places old; places = places; then = then }

-- Bytes may be written before the block is asked for.
takes_after : {size align : ℕ} {old mid new : View} {bs : List Block} {end : Option AllocError} {goes : View → List Block → Type 0}
    → SamePlaces old mid → Takes size align mid new bs end goes → Takes size align old new bs end goes
takes_after {old} {mid} same takes = record {
  start = takes.start;
  between = takes.between;
  answer = takes.answer;
  written = same_then old mid takes.start same takes.written;
  places = takes.places;
  then = takes.then;
}

-- After the block was placed the call may go on for further blocks. If it was refused it ends there.
takes_on : {size align : ℕ} {old mid new : View} {bs cs : List Block} {end last : Option AllocError}
    {goes goes' : View → List Block → Type 0} → Takes size align old mid bs end goes
    → ((between : View) (rest : List Block) → goes between rest → goes' between (rest ++ cs))
    → ((e : AllocError) → end ≡ Some e → (last ≡ Some e) × (cs ≡ []) × (new ≡ mid))
    → Takes size align old new (bs ++ cs) last goes'
takes_on {mid} {new} {bs} {cs} {end} {last} {goes} {goes'} takes on stop = record {
  start = takes.start;
  between = takes.between;
  answer = takes.answer;
  written = takes.written;
  places = takes.places;
  then = follows takes.answer takes.then;
}
  where
    follows : (answer : Answer) → Follows answer takes.between mid bs end (goes takes.between)
        → Follows answer takes.between new (bs ++ cs) last (goes' takes.between)
    follows (Placed b) then = (then.0 ++ cs, ap (λ bs. bs ++ cs) then.1, on takes.between then.0 then.2)
    follows (Refused k) then = let s = stop (AllocErr k) then.0 in (s.0, rw then.1 s.1, s.2 ∙ then.2)
    follows Exhausted then = let s = stop OutOfMemory then.0 in (s.0, rw then.1 s.1, s.2 ∙ then.2)

-- ---- Writes

-- Bytes may be written before,
pub same_asked : (xs : List Ask) (old mid new : View) (bs : List Block) (end : Option AllocError) → SamePlaces old mid
    → AsksFor xs mid new bs end → AsksFor xs old new bs end
same_asked [] old mid new bs end same asked = (asked.0, asked.1, same_then old mid new same asked.2)
same_asked (Room size align ∷ xs) old mid new bs end same asked = takes_after same asked
same_asked (Table pairs slot align ∷ xs) old mid new bs end same (slots, are, asked) = (slots, are, takes_after same asked)
same_asked (NoBytes ∷ xs) old mid new bs end same (b, rest, none, is, more) =
    (b, rest, none, is, same_asked xs old mid new rest end same more)
same_asked (Empty align ∷ xs) old mid new bs end same asked =
    (asked.0, asked.1, same_asked xs old mid new asked.0 end same asked.2)
same_asked (TooMuch ∷ xs) old mid new bs end same asked = (asked.0, asked.1, same_then old mid new same asked.2)

-- ---- One call after another

-- A call and then another: it goes on if nothing was refused, and otherwise ends there.
asked_on : (xs ys : List Ask) (old mid new : View) (bs cs : List Block) (end last : Option AllocError)
    → AsksFor xs old mid bs end → (end ≡ None → AsksFor ys mid new cs last)
    → ((e : AllocError) → end ≡ Some e → (last ≡ Some e) × (cs ≡ []) × (new ≡ mid)) → AsksFor (xs ++ ys) old new (bs ++ cs) last
asked_on [] ys old mid new bs cs end last first on stop = rw first.1 (same_asked ys old mid new cs last first.2 (on first.0))
asked_on (Room size align ∷ xs) ys old mid new bs cs end last first on stop =
    takes_on first (λ between rest more. asked_on xs ys between mid new rest cs end last more on stop) stop
asked_on (Table pairs slot align ∷ xs) ys old mid new bs cs end last (slots, are, first) on stop =
    (slots, are, takes_on first (λ between rest more. asked_on xs ys between mid new rest cs end last more on stop) stop)
asked_on (NoBytes ∷ xs) ys old mid new bs cs end last (b, rest, none, is, more) on stop =
    (b, rest ++ cs, none, ap (λ bs. bs ++ cs) is, asked_on xs ys old mid new rest cs end last more on stop)
asked_on (Empty align ∷ xs) ys old mid new bs cs end last (rest, is, more) on stop =
    (rest ++ cs, ap (λ bs. bs ++ cs) is, asked_on xs ys old mid new rest cs end last more on stop)
asked_on (TooMuch ∷ xs) ys old mid new bs cs end last first on stop =
    let s = stop CapacityOverflow first.0 in (s.0, rw first.1 s.1, rw s.2 first.2)

-- A call that is not refused, and then another, ask for what each of them asks for.
pub asked_then : (xs ys : List Ask) (old mid new : View) (bs cs : List Block) (end : Option AllocError)
    → AsksFor xs old mid bs None → AsksFor ys mid new cs end → AsksFor (xs ++ ys) old new (bs ++ cs) end
asked_then xs ys old mid new bs cs end first second = asked_on xs ys old mid new bs cs None end first (λ is. second) (λ e no. absurd (cc))

-- A call that is refused is so with further blocks that it no longer asks for.
pub asked_refused : (xs ys : List Ask) (old new : View) (bs : List Block) (e : AllocError) → AsksFor xs old new bs (Some e)
    → AsksFor (xs ++ ys) old new bs (Some e)
asked_refused xs ys old new bs e asked = simp append-nil at
    (asked_on xs ys old new new bs [] (Some e) (Some e) asked (λ no. absurd (cc)) (λ k is. (is, refl, refl)))

-- Bytes may be written afterwards, if nothing was refused.
pub asked_same : (xs : List Ask) (old mid new : View) (bs : List Block) → AsksFor xs old mid bs None → SamePlaces mid new
    → AsksFor xs old new bs None
asked_same xs old mid new bs asked same = simp append-nil at (asked_then xs [] old mid new bs [] None asked (refl, refl, same))

-- ---- One block

-- the block that a call returns, if it does
abbrev pub block_of : {X : Type 0} → (X → Block) → Result X AllocError → List Block
block_of f (Ok x) = f x ∷ []
block_of f (Err e) = []

-- A refusal leaves the memory as it was.
pub refusal_leaves : {X : Type 0} (f : X → Block) (e : AllocError) (size align : ℕ) (old new : View)
    → RoomAnswer f (Err e) (PlacesBlock old new size align) → new.memory ≡ old.memory
refusal_leaves f (AllocErr refused) size align old new placed = placed.1.outcome.1.memory
refusal_leaves f OutOfMemory size align old new placed = ap (λ v. v.memory) placed.1.outcome.same
refusal_leaves f CapacityOverflow size align old new placed = absurd placed

-- The arena's one answer is that of the call,
pub one_asked : {X : Type 0} (f : X → Block) (result : Result X AllocError) (size align : ℕ) (old new : View)
    → RoomAnswer f result (PlacesBlock old new size align)
    → AsksFor (Room size align ∷ []) old new (block_of f result) (refusal result)
one_asked f (Ok x) size align old new placed = takes_one (Placed (f x)) placed ([], refl, (refl, refl, same_places new))
one_asked f (Err (AllocErr refused)) size align old new placed = takes_one (Refused refused) placed (refl, refl, refl)
one_asked f (Err OutOfMemory) size align old new placed = takes_one Exhausted placed (refl, refl, refl)
one_asked f (Err CapacityOverflow) size align old new placed = absurd placed

-- even if other bytes were written after it.
pub took_asked : {X : Type 0} (f : X → Block) (size align : ℕ) (old new : View) (result : Result X AllocError)
    → Took new (λ between. RoomAnswer f result (PlacesBlock old between size align)) → OnErr result (new.memory ≡ old.memory)
    → AsksFor (Room size align ∷ []) old new (block_of f result) (refusal result)
took_asked f size align old new (Ok x) took same =
    asked_same (Room size align ∷ []) old took.between new (f x ∷ []) (one_asked f (Ok x) size align old took.between took.took) took.places
took_asked f size align old new (Err e) took same =
    let memory : took.between.memory ≡ new.memory = refusal_leaves f e size align old took.between took.took ∙ sym same in
    let source = sym took.places.source in
    let is : took.between ≡ new = λ i. record { memory = memory i; source = source i } in
    subst (λ v. AsksFor (Room size align ∷ []) old v [] (Some e)) is (one_asked f (Err e) size align old took.between took.took)
