-- The bytes that calls bring into use which ask for one block after another.
use Rattle.std.proofs.Common.{◌≡◌, ℕ, ◌+◌, ◌-◌, ◌*◌, ◌≤◌, max, ap, refl, ◌∙◌, arith, Option, Some, None, List, [], ◌∷◌, IsTrue}
use Rattle.std.proofs.Math.Nat.{mul-le-mul_right}
use Rattle.std.proofs.lemmas.Bool.Decides.{nat_tests}
use Rattle.arena_rules.specs.Rounding.{is_layout}
use Rattle.arena_rules.specs.State.{used_bytes}
use Rattle.arena_chunks.specs.Source.{View}
use Rattle.arena_chunks.specs.Answers.{Answer}
use Rattle.arena_chunks.specs.Answers.Answer.{Placed, Refused, Exhausted}
use Rattle.arena_chunks.specs.BlockCalls.{PlacesBlock}
use Rattle.arena_store.specs.declared.block.Block.{Block}
use Rattle.arena_chunks.proofs.Layers.{placed_least, placed_most}
use Rattle.arena_hash.specs.Policy.{IsSlotsFor}
use Rattle.arena_items.specs.declared.room.AllocError.{AllocError}
use Rattle.arena_clone.specs.Asks.{Ask, Follows, Takes, AsksFor}
use Rattle.arena_clone.specs.Asks.Ask.{Room, Table, NoBytes, Empty, TooMuch}
use Rattle.arena_clone.specs.AskBytes.{have_layouts, least_bytes, most_bytes, used}

module _ {size align : ℕ} {old new : View} {bs : List Block} {end : Option AllocError} {goes : View → List Block → Type 0}
    (layout : IsTrue (is_layout size align)) (takes : Takes size align old new bs end goes) where
  begun : used takes.start ≡ used old
  begun = ap used_bytes takes.written.state

  -- One block brings at most its size and its padding into use, and what follows the rest.
  takes_most : (more : ℕ) → ((between : View) (rest : List Block) → goes between rest → used new ≤ used between + more)
      → used new ≤ used old + (size + (max align 16 - 1) + more)
  takes_most more on = go takes.answer takes.places takes.then
    where
      go : (answer : Answer) → PlacesBlock takes.start takes.between size align answer
          → Follows answer takes.between new bs end (goes takes.between) → used new ≤ used old + (size + (max align 16 - 1) + more)
      go (Placed b) places then =
          let least = places.1.valid.entry.min_align in
          let low : takes.start.memory.state.min_align ≤ 16 = grind (arith, nat_tests, least) in
          omega (arith, low, begun, placed_most takes.start takes.between size align b layout places, on takes.between then.0 then.2)
      go (Refused k) places then =
          omega (arith, begun, ap used then.2, ap (λ m. used_bytes m.state) places.1.outcome.1.memory)
      go Exhausted places then = omega (arith, begun, ap used then.2, ap used places.1.outcome.same)

  -- It brings at least its size, if nothing is refused.
  takes_least : (more : ℕ) → end ≡ None → ((between : View) (rest : List Block) → goes between rest → used between + more ≤ used new)
      → used old + (size + more) ≤ used new
  takes_least more none on = go takes.answer takes.places takes.then
    where
      go : (answer : Answer) → PlacesBlock takes.start takes.between size align answer
          → Follows answer takes.between new bs end (goes takes.between) → used old + (size + more) ≤ used new
      go (Placed b) places then =
          omega (arith, begun, placed_least takes.start takes.between size align b layout places, on takes.between then.0 then.2)
      go (Refused k) places then = absurd (let no = then.0 in cc (no, none))
      go Exhausted places then = absurd (let no = then.0 in cc (no, none))

  -- If it is refused the state is as it was.
  takes_none : (e : AllocError) → end ≡ Some e → ((between : View) (rest : List Block) → goes between rest → end ≡ None)
      → new.memory.state ≡ old.memory.state
  takes_none e some on = go takes.answer takes.places takes.then
    where
      go : (answer : Answer) → PlacesBlock takes.start takes.between size align answer
          → Follows answer takes.between new bs end (goes takes.between) → new.memory.state ≡ old.memory.state
      go (Placed b) places then = absurd (let no = on takes.between then.0 then.2 in cc (no, some))
      go (Refused k) places then =
          ap (λ v. v.memory.state) then.2 ∙ ap (λ m. m.state) places.1.outcome.1.memory ∙ takes.written.state
      go Exhausted places then = ap (λ v. v.memory.state) then.2 ∙ ap (λ v. v.memory.state) places.1.outcome.same ∙ takes.written.state

-- the slots of a table for this many pairs, by their bytes
slots_most : (pairs slots slot : ℕ) → IsSlotsFor pairs slots → slots * slot ≤ 2 * max (2 * pairs) 8 * slot
slots_most pairs slots slot is = mul-le-mul_right slot (let few : slots ≤ 2 * max (2 * pairs) 8 = omega (arith, is.2) in few)

slots_least : (pairs slots slot : ℕ) → IsSlotsFor pairs slots → max (2 * pairs) 8 * slot ≤ slots * slot
slots_least pairs slots slot is = mul-le-mul_right slot (let enough : max (2 * pairs) 8 ≤ slots = omega (arith, is.1) in enough)

pub asks_most : (xs : List Ask) (old new : View) (bs : List Block) (end : Option AllocError) → have_layouts xs
    → AsksFor xs old new bs end → used new ≤ used old + most_bytes xs
asks_most [] old new bs end fit asked = omega (arith, ap used_bytes asked.2.state)
asks_most (Room size align ∷ xs) old new bs end fit asked =
    takes_most fit.0 asked (most_bytes xs) (λ between rest more. asks_most xs between new rest end fit.1 more)
asks_most (Table pairs slot align ∷ xs) old new bs end fit (slots, are, asked) =
    let most = takes_most (fit.0 slots are) asked (most_bytes xs) (λ between rest more. asks_most xs between new rest end fit.1 more) in
    omega (arith, most, slots_most pairs slots slot are)
asks_most (NoBytes ∷ xs) old new bs end fit (b, rest, none, is, more) = omega (arith, asks_most xs old new rest end fit.1 more)
asks_most (Empty align ∷ xs) old new bs end fit (rest, is, more) = omega (arith, asks_most xs old new rest end fit.1 more)
asks_most (TooMuch ∷ xs) old new bs end fit asked = omega (arith, ap used_bytes asked.2.state)

pub asks_least : (xs : List Ask) (old new : View) (bs : List Block) → have_layouts xs → AsksFor xs old new bs None
    → used old + least_bytes xs ≤ used new
asks_least [] old new bs fit asked = omega (arith, ap used_bytes asked.2.state)
asks_least (Room size align ∷ xs) old new bs fit asked =
    takes_least fit.0 asked (least_bytes xs) refl (λ between rest more. asks_least xs between new rest fit.1 more)
asks_least (Table pairs slot align ∷ xs) old new bs fit (slots, are, asked) =
    let least = takes_least (fit.0 slots are) asked (least_bytes xs) refl (λ between rest more. asks_least xs between new rest fit.1 more)
    in
    omega (arith, least, slots_least pairs slots slot are)
asks_least (NoBytes ∷ xs) old new bs fit (b, rest, none, is, more) = omega (arith, asks_least xs old new rest fit.1 more)
asks_least (Empty align ∷ xs) old new bs fit (rest, is, more) = omega (arith, asks_least xs old new rest fit.1 more)
asks_least (TooMuch ∷ xs) old new bs fit asked = absurd (let no = asked.0 in cc)

-- One block or table that is refused leaves the state as it was.
pub one_none : (x : Ask) (old new : View) (bs : List Block) (e : AllocError) → have_layouts (x ∷ []) → AsksFor (x ∷ []) old new bs (Some e)
    → new.memory.state ≡ old.memory.state
one_none x old new bs e fit asked = grind (arith, nat_tests, takes_none)
