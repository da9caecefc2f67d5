-- What holds of all items of a list.
use Rattle.std.proofs.Common.{arith, ◌≡◌, ℕ, zero, suc, subst, Some, Option, List, [], ◌∷◌, ◌++◌, take, map}
use Rattle.std.specs.Prelude.{slice_get}
use Rattle.std.specs.List.{filter_map, AllByRecursion}
use Rattle.std.proofs.lemmas.Option.{same_Some}

module _ {X : Type 0} (P : X → Type 0) where
  pub all_append : (xs ys : List X) → AllByRecursion P xs → AllByRecursion P ys → AllByRecursion P (xs ++ ys)
  all_append [] ys first second = second
  all_append (x ∷ xs) ys first second = (first.0, all_append xs ys first.1 second)

  pub all_parts : (xs ys : List X) → AllByRecursion P (xs ++ ys) → AllByRecursion P xs × AllByRecursion P ys
  all_parts [] ys all = (tt, all)
  all_parts (x ∷ xs) ys all = let rest = all_parts xs ys all.1 in ((all.0, rest.0), rest.1)

  pub all_take : (k : ℕ) (xs : List X) → AllByRecursion P xs → AllByRecursion P (take k xs)
  all_take zero xs all = tt
  all_take (suc k) [] all = tt
  all_take (suc k) (x ∷ xs) all = (all.0, all_take k xs all.1)

  pub all_get : (xs : List X) (k : ℕ) (x : X) → AllByRecursion P xs → slice_get xs k ≡ Some x → P x
  all_get [] k x all found = absurd (cc)
  all_get (y ∷ ys) zero x all found = subst P (same_Some y x found) all.0
  all_get (y ∷ ys) (suc k) x all found = all_get ys k x all.1 found

  pub all_weaker : (Q : X → Type 0) → ((x : X) → P x → Q x) → (xs : List X) → AllByRecursion P xs → AllByRecursion Q xs
  all_weaker Q follows [] all = tt
  all_weaker Q follows (x ∷ xs) all = (follows x all.0, all_weaker Q follows xs all.1)

pub all_map : {X Y : Type 0} (f : X → Y) (P : X → Type 0) (Q : Y → Type 0) → ((x : X) → P x → Q (f x)) → (xs : List X)
    → AllByRecursion P xs → AllByRecursion Q (map f xs)
all_map f P Q follows [] all = tt
all_map f P Q follows (x ∷ xs) all = (follows x all.0, all_map f P Q follows xs all.1)

-- a filter's results have what follows from its inputs
pub all_filtered : {X Y : Type 0} (h : X → Option Y) (P : X → Type 0) (Q : Y → Type 0)
    → ((x : X) (y : Y) → P x → h x ≡ Some y → Q y) → (xs : List X) → AllByRecursion P xs → AllByRecursion Q (filter_map h xs)
all_filtered h P Q follows [] all = tt
all_filtered h P Q follows (x ∷ xs) all = let rest = all_filtered h P Q follows xs all.1 in grind arith
