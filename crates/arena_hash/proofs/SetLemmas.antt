-- Calls on sets, as calls on their maps.
use Rattle.std.proofs.lemmas.Bool.Decides.{nat_tests}
use Rattle.std.proofs.Common.{arith, ◌≡◌, ◌↔◌, List, [], ◌∷◌, map, Ok, Err, Option, Bool, IsTrue}
use Rattle.std.proofs.lemmas.Bool.{false≢true}
use Rattle.std.specs.Iterator.{Yields}
use Rattle.std.specs.Prelude.{is_some}
use Rattle.arena_chunks.specs.Source.{View}
use Rattle.arena_items.specs.declared.room.AllocError.{AllocError}
use Rattle.arena_items.proofs.Layers.{room_then, room_refused}
use Rattle.hash_ring.specs.Finite.{Finite, value_of}
use Rattle.hash_ring.specs.Walks.{AreBoth, AreEqual}
use Rattle.hash_ring.proofs.Equal.{both-has}
use Rattle.arena_table.specs.Contents.{Kind}
use Rattle.arena_hash.specs.Changes.{Puts}
use Rattle.arena_hash.specs.Sets.{HaveSame, StepsInPairs}
use Rattle.arena_hash.specs.declared.map.HashMap.{HashMap}
use Rattle.arena_hash.proofs.AccountLemmas.{answer-refused}

module _ {K V S X Y : Type 0} (k : Kind K V S) (old new : View) (m : HashMap K V S) (key : K) (value : V) (tells : Option V → X → Type 0)
    (says : Option V → Y → Type 0) (w : HashMap K V S) where
  -- What a put reports may be replaced by what follows from it,
  pub puts-as : (x : X) (y : Y) → ((before : Option V) → tells before x → says before y) → Puts k old new m key value tells w (Ok x)
      → Puts k old new m key value says w (Ok y)
  puts-as x y told p = grind (arith, nat_tests, room_then)

  -- and so may the result type of a refusal.
  pub puts-refused-as : (e : AllocError) → Puts {X = X} k old new m key value tells w (Err e) → Puts {X = Y} k old new m key value says w
      (Err e)
  puts-refused-as e p = grind (arith, nat_tests, room_refused, answer-refused)

-- ---- Equality: that of two maps with no values

has-both : {K : Type 0} (eq : Unit {0} → Unit {0} → Bool) → ((x y : Unit {0}) → IsTrue (eq x y)) → (one other : Option (K × Unit {0}))
    → is_some one ≡ is_some other → AreBoth eq (value_of one) (value_of other)
has-both eq all one other e = grind (arith, nat_tests, false≢true)

-- If any two values are equal, equal maps have the same contents.
pub same-sets : {K : Type 0} (eq : Unit {0} → Unit {0} → Bool) → ((x y : Unit {0}) → IsTrue (eq x y)) → (one other : Finite K (Unit {0}))
    → (answer : Bool) → (IsTrue answer ↔ AreEqual eq one other) → (IsTrue answer ↔ HaveSame one other)
same-sets eq all one other answer equal = grind (arith, nat_tests, both-has, has-both)

-- ---- Iterators

-- an iterator returned the items of the pairs that it returned
pub items-yielded : {T I : Type 0} (steps : I → Option T → I → Type 0) (iter : I) (pairs : List (T × Unit {0})) (now : I)
    → Yields (StepsInPairs steps) iter pairs now → Yields steps iter (map (λ p. p.0) pairs) now
items-yielded steps iter [] now run = run
items-yielded steps iter (p ∷ ps) now (j, step, rest) = (j, step, items-yielded steps j ps now rest)
