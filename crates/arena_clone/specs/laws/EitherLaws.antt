-- The blocks of a value of one of several sorts determine what it is.
use Rattle.std.proofs.Common.{◌≡◌, ◌⊎◌, inl, inr, ap, []}
use Rattle.std.proofs.lemmas.Bool.{and_parts}
use Rattle.arena_chunks.specs.Memory.{Memory}
use Rattle.arena_items.specs.Footprint.{AreReadable, Agree}
use Rattle.arena_clone.specs.Kinds.{Kind, AreAlike}
use Rattle.arena_clone.specs.EitherKind.{sum_of, either_of}
use Rattle.arena_clone.specs.laws.KindLaws.{IsLawful}
use Rattle.arena_clone.specs.Copies.{IsFlat}
use Rattle.arena_kinds.specs.declared.ids.CloneInSemanticIds.{CloneInSemanticIds}
use Rattle.arena_kinds.specs.declared.ids.CloneInSemanticIds.TheVariants.{With}

module _ {A B : Type 0} {first : Kind A} {second : Kind B} {ids : CloneInSemanticIds} (flat : IsFlat first ids)
    (also : IsFlat second ids) where
  pub sum_flat : IsFlat (sum_of first second) ids
  sum_flat = record { held = holds; trim = trims; deep = names; asks = asked; alike = means }
    where
      holds : (m : Memory) (s : A ⊎ B) → (sum_of first second).is_held m s
      holds m (inl x) = flat.held m x
      holds m (inr y) = also.held m y

      trims : (m : Memory) (s : A ⊎ B) → (sum_of first second).is_trim m s
      trims m (inl x) = flat.trim m x
      trims m (inr y) = also.trim m y

      names : (m : Memory) (s : A ⊎ B) → (sum_of first second).deep m s ≡ []
      names m (inl x) = flat.deep m x
      names m (inr y) = also.deep m y

      asked : (m : Memory) (s : A ⊎ B) → (sum_of first second).asks m s ≡ []
      asked m (inl x) = flat.asks m x
      asked m (inr y) = also.asks m y

      means : (a c : Memory) (s : A ⊎ B) → AreAlike (sum_of first second) ids a s c s
      means a c (inl x) = ap inl (flat.alike a c x)
      means a c (inr y) = ap inr (also.alike a c y)

module _ {A B : Type 0} (first : Kind A) (second : Kind B) (is : IsLawful first) (other : IsLawful second) where
  pub sum_lawful : IsLawful (sum_of first second)
  sum_lawful = record {
    readable = reads;
    held = holds;
    trim = trims;
    deep = names;
    whole = means;
    asks = asks_same;
    kept = keeps;
    flat = λ ids moved.
        let each = and_parts (first.is_flat ids) (second.is_flat ids) moved in sum_flat (is.flat ids each.0) (other.flat ids each.1);
  }
    where
      keeps : (w : first.Whole ⊎ second.Whole) → (sum_of first second).by_ids With w ≡ w
      keeps (inl w) = ap inl (is.kept w)
      keeps (inr w) = ap inr (other.kept w)

      reads : (m : Memory) (s : A ⊎ B) → (sum_of first second).is_held m s → AreReadable m.state ((sum_of first second).deep m s)
      reads m (inl x) held = is.readable m x held
      reads m (inr y) held = other.readable m y held

      holds : (a c : Memory) (s : A ⊎ B) → (sum_of first second).is_held a s → Agree a c ((sum_of first second).deep a s)
          → AreReadable c.state ((sum_of first second).deep a s) → (sum_of first second).is_held c s
      holds a c (inl x) held agree readable = is.held a c x held agree readable
      holds a c (inr y) held agree readable = other.held a c y held agree readable

      trims : (a c : Memory) (s : A ⊎ B) → (sum_of first second).is_trim a s → Agree a c ((sum_of first second).deep a s)
          → (sum_of first second).is_trim c s
      trims a c (inl x) trim agree = is.trim a c x trim agree
      trims a c (inr y) trim agree = other.trim a c y trim agree

      names : (a c : Memory) (s : A ⊎ B) → Agree a c ((sum_of first second).deep a s)
          → (sum_of first second).deep c s ≡ (sum_of first second).deep a s
      names a c (inl x) agree = is.deep a c x agree
      names a c (inr y) agree = other.deep a c y agree

      means : (a c : Memory) (s : A ⊎ B) → Agree a c ((sum_of first second).deep a s)
          → (sum_of first second).whole c s ≡ (sum_of first second).whole a s
      means a c (inl x) agree = λ i. inl (is.whole a c x agree i)
      means a c (inr y) agree = λ i. inr (other.whole a c y agree i)

      asks_same : (a c : Memory) (s : A ⊎ B) → Agree a c ((sum_of first second).deep a s)
          → (sum_of first second).asks c s ≡ (sum_of first second).asks a s
      asks_same a c (inl x) agree = is.asks a c x agree
      asks_same a c (inr y) agree = other.asks a c y agree

  pub either_lawful : {T : Type 0} (sort : T → A ⊎ B) → IsLawful (either_of first second sort)
  either_lawful sort = record {
    readable = λ m v. sum_lawful.readable m (sort v);
    held = λ a c v. sum_lawful.held a c (sort v);
    trim = λ a c v. sum_lawful.trim a c (sort v);
    deep = λ a c v. sum_lawful.deep a c (sort v);
    whole = λ a c v. sum_lawful.whole a c (sort v);
    asks = λ a c v. sum_lawful.asks a c (sort v);
    kept = sum_lawful.kept;
    flat = λ ids moved.
        let flat = sum_lawful.flat ids moved in
        record {
          held = λ m v. flat.held m (sort v);
          trim = λ m v. flat.trim m (sort v);
          deep = λ m v. flat.deep m (sort v);
          asks = λ m v. flat.asks m (sort v);
          alike = λ a c v. flat.alike a c (sort v);
        };
  }
