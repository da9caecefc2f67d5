-- What calls leave of a source's counts.
use Rattle.std.proofs.lemmas.Bool.Decides.{nat_tests}
use Rattle.std.proofs.Common.{◌≡◌, ℕ, zero, suc, List, ◌++◌, refl, sym, subst, Result, append_assoc, append-nil, arith}
use Rattle.std.specs.Prelude.{Option, IfSome, IsSomeAnd}
use Rattle.std.proofs.lemmas.Bool.{cases_Bool}
use Rattle.arena_items.specs.declared.room.AllocError.{AllocError}
use Rattle.arena_chunks.specs.Answers.{Answer}
use Rattle.arena_chunks.specs.Answers.Answer.{Placed, Refused, Exhausted}
use Rattle.arena_chunks.specs.BlockCalls.{PlacesBlock, GrowsBlock}
use Rattle.arena_store.specs.declared.block.Block.{Block}
use Rattle.arena_symbols.specs.Interning.{Interns}
use Rattle.arena_items.specs.Room.{MakesRoom, RoomAnswer, TakesRoom}
use Rattle.arena_chunks.specs.Source.{Source, View, IsAsked}
use Rattle.arena_symbols.specs.declared.symbols.Symbols.{Symbols}
use Rattle.raw_vec.specs.Growth.{growth_to}
use Rattle.arena_ast.specs.Asts.{ListsMore, KeepsCount}

-- ---- No request, and requests one after another

no_more : (asked : Option (List (ℕ × ℕ))) → ListsMore asked asked
no_more asked = grind (arith, nat_tests, append-nil)

more_then : (one two three : Option (List (ℕ × ℕ))) → ListsMore one two → ListsMore two three → ListsMore one three
more_then one two three first second = grind (arith, nat_tests, append_assoc)

pub same_count : (source : Source) → KeepsCount source source
same_count source = record { refusals = omega arith; requests = no_more source.asked }

pub counts_then : {one two three : Source} → KeepsCount one two → KeepsCount two three → KeepsCount one three
counts_then {one = one} {two = two} {three = three} first second = record {
  refusals = omega (arith, first.refusals, second.refusals);
  requests = more_then one.asked two.asked three.asked first.requests second.requests;
}

unasked : (old new : View) → new ≡ old → KeepsCount old.source new.source
unasked old new same = subst (λ (v : View). KeepsCount old.source v.source) (sym same) (same_count old.source)

-- ---- A call on a block

listed : (P : List (ℕ × ℕ) → List (ℕ × ℕ) → Type 0) (before after : Option (List (ℕ × ℕ)))
    → ((some all : List (ℕ × ℕ)) → P some all → (made : List (ℕ × ℕ)) × (all ≡ some ++ made))
    → IfSome after (λ all. IsSomeAnd before (λ some. P some all)) → ListsMore before after
listed P before after adds is = grind (arith, nat_tests)

counted : {before after : Source} {k : ℕ} {made : List (ℕ × ℕ)} → IsAsked before after k made → KeepsCount before after
counted {before = x0} {after = x1} {made = x2} asked = grind (arith, nat_tests, listed)

placed_counts : (old new : View) (size align : ℕ) (answer : Answer) → PlacesBlock old new size align answer
    → KeepsCount old.source new.source
placed_counts old new size align (Placed b) places = counted places.1.outcome.asked
placed_counts old new size align (Refused k) places = counted places.1.outcome.1.asked
placed_counts old new size align Exhausted places = unasked old new places.1.outcome.same

grown_counts : (old new : View) (block : Block) (size align : ℕ) (answer : Answer) → GrowsBlock old new block size align answer
    → KeepsCount old.source new.source
grown_counts old new block size align (Placed b) grows = counted grows.1.outcome.asked
grown_counts old new block size align (Refused k) grows = counted grows.1.outcome.1.asked
grown_counts old new block size align Exhausted grows = unasked old new grows.1.outcome.1.same

module _ (old new : View) (block : Block) (size align : ℕ) where
  taken_counts : (cap : ℕ) (answer : Answer) → TakesRoom old new block cap size align answer → KeepsCount old.source new.source
  taken_counts zero answer takes = placed_counts old new size align answer (takes.placed refl)
  taken_counts (suc cap) answer takes = grown_counts old new block size align answer (takes.grown (omega arith))

  room_counts : {X : Type 0} (f : X → Block) (cap : ℕ) (result : Result X AllocError)
      → RoomAnswer f result (TakesRoom old new block cap size align) → KeepsCount old.source new.source
  room_counts f cap result takes = grind (arith, nat_tests, taken_counts)

-- ---- Calls on a list and on an interner

pub list_counts : {X : Type 0} (size align : ℕ) (old new : View) (block : Block) (cap required wanted : ℕ) (f : X → Block)
    (result : Result X AllocError) → MakesRoom size align old new block cap (growth_to size cap required wanted) f result
    → KeepsCount old.source new.source
unfolding growth_to
list_counts size align old new block cap required wanted f result made = grind (arith, nat_tests, cases_Bool, room_counts, unasked)

pub interned_counts : {old new : View} {names after : Symbols} {text : List ℕ} {result : Result ℕ AllocError}
    → Interns old new names after text result → KeepsCount old.source new.source
interned_counts {old = x0} {new = x1} interns = grind (arith, nat_tests, listed)
