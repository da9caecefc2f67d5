-- Values of one of several sorts, at every depth: user-defined enums.
use Rattle.std.proofs.Common.{◌⊎◌, inl, inr}
use Rattle.std.specs.Prelude.{◌&&◌}
use Rattle.arena_clone.specs.Kinds.{Kind}

-- a function of a value of either sort, which keeps the sort; a function of either; and a claim about either
abbrev pub of_either : {A B C D : Type 0} → (A → C) → (B → D) → A ⊎ B → C ⊎ D
of_either f g (inl x) = inl (f x)
of_either f g (inr y) = inr (g y)

abbrev pub by_either : {A B C : Type 0} → (A → C) → (B → C) → A ⊎ B → C
by_either f g (inl x) = f x
by_either f g (inr y) = g y

abbrev pub holds_either : {A B : Type 0} → (A → Type 0) → (B → Type 0) → A ⊎ B → Type 0
holds_either P Q (inl x) = P x
holds_either P Q (inr y) = Q y

module _ {A B : Type 0} (first : Kind A) (second : Kind B) where
  -- a value of either sort is what it is as one of that sort
  abbrev pub sum_of : Kind (A ⊎ B)
  sum_of = record {
    Whole = first.Whole ⊎ second.Whole;
    whole = λ m. of_either (first.whole m) (second.whole m);
    deep = λ m. by_either (first.deep m) (second.deep m);
    is_small = first.is_small × second.is_small;
    is_held = λ m. holds_either (first.is_held m) (second.is_held m);
    by_ids = λ ids. of_either (first.by_ids ids) (second.by_ids ids);
    is_trim = λ m. holds_either (first.is_trim m) (second.is_trim m);
    asks = λ m. by_either (first.asks m) (second.asks m);
    is_flat = λ ids. first.is_flat ids && second.is_flat ids;
  }

  -- So is a value of a user-defined enum, by the sort of each variant. More than two variants are nested sorts.
  abbrev pub either_of : {T : Type 0} → (T → A ⊎ B) → Kind T
  either_of sort = record {
    Whole = sum_of.Whole;
    whole = λ m v. sum_of.whole m (sort v);
    deep = λ m v. sum_of.deep m (sort v);
    is_small = sum_of.is_small;
    is_held = λ m v. sum_of.is_held m (sort v);
    by_ids = sum_of.by_ids;
    is_trim = λ m v. sum_of.is_trim m (sort v);
    asks = λ m v. sum_of.asks m (sort v);
    is_flat = sum_of.is_flat;
  }
