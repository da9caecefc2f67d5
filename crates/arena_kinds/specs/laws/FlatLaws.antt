-- Values whose bytes, copied elsewhere, are a copy of them: for each kind that says so of its values.
use Rattle.std.proofs.Common.{◌≡◌, ap, refl, Option, Some, None, List, [], ◌∷◌}
use Rattle.std.specs.List.{AllByRecursion, flat_map}
use Rattle.arena_chunks.specs.Memory.{Memory}
use Rattle.arena_kinds.specs.Kinds.{Kind, AreAlike, plain, option_of, row_of, both_of}
use Rattle.arena_kinds.specs.Copies.{IsFlat}
use Rattle.arena_kinds.specs.declared.ids.CloneInSemanticIds.{CloneInSemanticIds}

pub plain_flat : {T : Type 0} (ids : CloneInSemanticIds) → IsFlat (plain {T = T}) ids
plain_flat ids = record {
  held = λ m v. tt;
  trim = λ m v. tt;
  deep = λ m v. refl;
  asks = λ m v. refl;
  alike = λ a c v. refl;
}

-- what holds of all holds of each in a list
everywhere : {A : Type 0} (P : A → Type 0) → ((x : A) → P x) → (xs : List A) → AllByRecursion P xs
everywhere P all [] = tt
everywhere P all (x ∷ xs) = (all x, everywhere P all xs)

-- lists that are all empty are empty together
pub none_in_all : {A B : Type 0} (f : A → List B) → ((x : A) → f x ≡ []) → (xs : List A) → flat_map f xs ≡ []
none_in_all f none [] = refl
none_in_all f none (x ∷ xs) = rw (none x) (none_in_all f none xs)

module _ {T : Type 0} {kind : Kind T} {ids : CloneInSemanticIds} (flat : IsFlat kind ids) where
  pub option_flat : IsFlat (option_of kind) ids
  option_flat = record { held = holds; trim = trims; deep = names; asks = asked; alike = means }
    where
      holds : (m : Memory) (o : Option T) → (option_of kind).is_held m o
      holds m None = tt
      holds m (Some v) = flat.held m v

      trims : (m : Memory) (o : Option T) → (option_of kind).is_trim m o
      trims m None = tt
      trims m (Some v) = flat.trim m v

      names : (m : Memory) (o : Option T) → (option_of kind).deep m o ≡ []
      names m None = refl
      names m (Some v) = flat.deep m v

      asked : (m : Memory) (o : Option T) → (option_of kind).asks m o ≡ []
      asked m None = refl
      asked m (Some v) = flat.asks m v

      means : (a c : Memory) (o : Option T) → AreAlike (option_of kind) ids a o c o
      means a c None = refl
      means a c (Some v) = ap Some (flat.alike a c v)

  pub row_flat : IsFlat (row_of kind) ids
  row_flat = record {
    held = λ m. everywhere (kind.is_held m) (flat.held m);
    trim = λ m. everywhere (kind.is_trim m) (flat.trim m);
    deep = λ m. none_in_all (kind.deep m) (flat.deep m);
    asks = λ m. none_in_all (kind.asks m) (flat.asks m);
    alike = means;
  }
    where
      means : (a c : Memory) (vs : List T) → AreAlike (row_of kind) ids a vs c vs
      means a c [] = refl
      means a c (v ∷ vs) = λ i. flat.alike a c v i ∷ means a c vs i

pub both_flat : {T A B : Type 0} {first : Kind A} {second : Kind B} (a : T → A) (b : T → B) {ids : CloneInSemanticIds}
    → IsFlat first ids → IsFlat second ids → IsFlat (both_of first second a b) ids
both_flat a b flat also = record {
  held = λ m v. (flat.held m (a v), also.held m (b v));
  trim = λ m v. (flat.trim m (a v), also.trim m (b v));
  deep = λ m v. rw (flat.deep m (a v), also.deep m (b v)) refl;
  asks = λ m v. rw (flat.asks m (a v), also.asks m (b v)) refl;
  alike = λ m n v i. (flat.alike m n (a v) i, also.alike m n (b v) i);
}
