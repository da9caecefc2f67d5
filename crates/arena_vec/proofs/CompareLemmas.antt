-- Lists that are compared from the front.
use Rattle.std.proofs.Common.{◌≡◌, ℕ, ◌+◌, zero, suc, min, List, [], ◌∷◌, ◌++◌, length, drop, refl, sym, ◌∙◌, arith, Bool, true, false, not, ◌&&◌, Some, slice_get}
use Rattle.std.proofs.lemmas.Option.{slice_get_within, get_or_from_slice_get, slice_get_read, same_Some}
use Rattle.std.proofs.cmp.SliceLoops.{Rest, begun, ended, all_seen}
use Rattle.std.specs.Cmp.{first_so, second_so}
use Rattle.std.specs.Cmp.Lexicographic.{pointwise, slice_cmp, unequal, as_long, lists_per, lists_equiv, lists_total, lists_ties, lists_agrees}
use Rattle.std.specs.Ordering.{nat_cmp, is_ne, eq_by_cmp}
use Rattle.std.specs.declared.cmp.Ordering.{Ordering}
use Rattle.std.specs.declared.cmp.Ordering.TheVariants.{Less, Equal}
use Rattle.arena_items.proofs.Layers.{length-elements}
use Rattle.arena_vec.specs.Comparing.{AreAlike}

module _ {T : Type 0} (xs ys : List T) where
  -- Lists of different lengths aren't equal.
  pub other_lengths : (E : T → T → Bool) (n m : ℕ) → length xs ≡ n → length ys ≡ m → (n ≡ m → ⊥) → false ≡ pointwise E xs ys
  other_lengths E n m one two other = sym (unequal E xs ys (λ e. other (omega (arith, one, two, e))))

  -- If all indices were compared the lists are equal,
  pub all_equal : (E : T → T → Bool) (i n m : ℕ) → length xs ≡ n → length ys ≡ m → n ≡ i → m ≡ i → Rest (pointwise E) xs ys i
      → true ≡ pointwise E xs ys
  all_equal E i n m one two first second rest = all_seen E xs ys i (omega (arith, one, first)) (omega (arith, two, second)) ∙ rest

  -- and if all of one were, the lengths decide.
  pub lengths_decide : (R : T → T → Ordering) (i n m : ℕ) (r : Ordering) → length xs ≡ n → length ys ≡ m → i ≡ min n m
      → r ≡ nat_cmp n m → Rest (slice_cmp R) xs ys i → r ≡ slice_cmp R xs ys
  lengths_decide R i n m r one two all told rest =
      ended xs ys i r (omega (arith, one, two, all)) (told ∙ (λ k. nat_cmp (sym one k) (sym two k))) R ∙ rest

module _ {T : Type 0} (xs ys : List T) (i : ℕ) (x y : T) (here : slice_get xs i ≡ Some x) (there : slice_get ys i ≡ Some y) where
  -- at this index the lists have these values
  turn : {X : Type 0} (f : List T → List T → X) → f (x ∷ drop (i + 1) xs) (y ∷ drop (i + 1) ys) ≡ f (drop i xs) (drop i ys)
  turn f = begun xs ys i x y (slice_get_within xs i x here) (slice_get_within ys i y there)
      (sym (get_or_from_slice_get xs i x x here)) (sym (get_or_from_slice_get ys i y y there)) f

  module _ (E : T → T → Bool) (rest : Rest (pointwise E) xs ys i) where
    -- If they aren't equal, the lists aren't,
    pub unlike : (b : Bool) → b ≡ not (E x y) → b ≡ true → false ≡ pointwise E xs ys
    unlike b is e = grind (arith, turn (pointwise E))

    -- and if they are, the rest decides.
    pub alike : (b : Bool) → b ≡ not (E x y) → b ≡ false → Rest (pointwise E) xs ys (i + 1)
    alike b is e = grind (arith, turn (pointwise E))

  module _ (R : T → T → Ordering) (r : Ordering) (told : r ≡ R x y) (rest : Rest (slice_cmp R) xs ys i) where
    -- If they differ they decide,
    pub differ : (b : Bool) → b ≡ is_ne r → b ≡ true → r ≡ slice_cmp R xs ys
    differ b is e = grind (arith, turn (slice_cmp R))

    -- and if they don't, the rest does.
    pub tie : (b : Bool) → b ≡ is_ne r → b ≡ false → Rest (slice_cmp R) xs ys (i + 1)
    tie b is e = grind (arith, turn (slice_cmp R))

-- for automatic proof: the loops,
pub ruleset loop_laws = (other_lengths, all_equal, lengths_decide, unlike, alike, differ, tie, slice_get_read, length-elements)

-- ---- What the comparisons mean

module _ {T : Type 0} (E : T → T → Bool) where
  -- Equal lists have the same length, and equal values at each index;
  same_values : (xs ys : List T) → pointwise E xs ys ≡ true → (i : ℕ) (x y : T) → slice_get xs i ≡ Some x → slice_get ys i ≡ Some y
      → E x y ≡ true
  same_values (u ∷ us) (v ∷ vs) same zero x y here other =
      rw (same_Some u x here, same_Some v y other) at (first_so (E u v) (pointwise E us vs) same)
  same_values (u ∷ us) (v ∷ vs) same (suc i) x y here other =
      same_values us vs (second_so (E u v) (pointwise E us vs) same) i x y here other
  same_values xs ys same i x y here other = cc

  pub each_alike : (xs ys : List T) → pointwise E xs ys ≡ true → AreAlike E xs ys
  each_alike xs ys same = record { as_long = as_long E xs ys same; values = same_values xs ys same }

  -- and so are lists of which that holds.
  pub all_alike : (xs ys : List T) → AreAlike E xs ys → pointwise E xs ys ≡ true
  all_alike (x ∷ xs) (y ∷ ys) alike =
      let head = alike.values 0 x y refl refl in
      let tail = all_alike xs ys (record { as_long = omega (arith, alike.as_long); values = λ i. alike.values (suc i) }) in
      λ i. head i && tail i
  all_alike [] [] alike = refl
  all_alike xs ys alike = absurd (omega (arith, alike.as_long))

module _ {T : Type 0} (E : T → T → Bool) (R : T → T → Ordering) (ties : (x y : T) → E x y ≡ eq_by_cmp R x y) where
  -- After equal fronts the first values that differ decide,
  pub first_decides : (before front : List T) (x y : T) (xs ys : List T) → pointwise E before front ≡ true → (R x y ≡ Equal → ⊥)
      → slice_cmp R (before ++ x ∷ xs) (front ++ y ∷ ys) ≡ R x y
  first_decides [] [] x y xs ys same differ = grind arith
  first_decides (u ∷ us) (v ∷ vs) x y xs ys same differ = grind (arith, ties u v, first_decides us vs x y xs ys, differ)
  first_decides before front x y xs ys same differ = cc

  -- and a proper prefix comes first.
  pub front_first : (before front : List T) (y : T) (ys : List T) → pointwise E before front ≡ true
      → slice_cmp R before (front ++ y ∷ ys) ≡ Less
  front_first [] [] y ys same = refl
  front_first (u ∷ us) (v ∷ vs) y ys same = grind (arith, ties u v, front_first us vs y ys)
  front_first before front y ys same = cc

-- and the laws
pub ruleset order_laws = (lists_per, lists_equiv, lists_total, lists_ties, lists_agrees, each_alike, all_alike, first_decides, front_first)
