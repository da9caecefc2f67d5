-- Options, lists and maps that are alike.
use Rattle.std.proofs.lemmas.Bool.Decides.{nat_tests}
use Rattle.std.proofs.Common.{◌≡◌, ℕ, zero, suc, ◌↔◌, ap, sym, ◌∙◌, refl, arith, Option, Some, List, [], ◌∷◌}
use Rattle.std.specs.Prelude.{is_some, slice_get}
use Rattle.arena_chunks.specs.Memory.{Memory}
use Rattle.std.proofs.Math.Path.{fun_ext}
use Rattle.arena_hash.specs.Contents.{Kind as MapTypes}
use Rattle.arena_hash.specs.Finite.{has, value_of}
use Rattle.arena_hash.specs.Maps.{map_in}
use Rattle.arena_hash.specs.declared.map.HashMap.{HashMap}
use Rattle.arena_clone.specs.Alike.{AreOptionsAlike, AreListsAlike, AreMapsAlike}
use Rattle.arena_clone.specs.Kinds.{Kind, AreAlike, of_some, option_of, row_of}
use Rattle.arena_clone.specs.MapKind.{map_of}
use Rattle.arena_kinds.specs.declared.ids.CloneInSemanticIds.{CloneInSemanticIds}

some_same : {A : Type 0} (x y : A) → Some x ≡ Some y → x ≡ y
some_same x y same = cc

cons_same : {A : Type 0} (x y : A) (xs ys : List A) → x ∷ xs ≡ y ∷ ys → (x ≡ y) × (xs ≡ ys)
cons_same x y xs ys same = (cc, cc)

module _ {T : Type 0} (kind : Kind T) (ids : CloneInSemanticIds) (a c : Memory) where
  -- Two options are alike if and only if both are `None`, or their values are alike.
  pub options_alike : (v w : Option T) → AreAlike (option_of kind) ids a v c w ↔ AreOptionsAlike kind ids a v c w
  options_alike v w = grind (arith, nat_tests, some_same)

  -- Two lists are alike if and only if their values are, position by position.
  lists_apart : (vs ws : List T) → AreAlike (row_of kind) ids a vs c ws → AreListsAlike kind ids a vs c ws
  lists_apart [] [] same = record { lengths = refl; each = λ i v w at there. cc }
  lists_apart [] (w ∷ ws) same = absurd cc
  lists_apart (v ∷ vs) [] same = absurd cc
  lists_apart (v ∷ vs) (w ∷ ws) same =
      let both = cons_same _ _ _ _ same in
      let rest = lists_apart vs ws both.1 in
      record { lengths = ap suc rest.lengths; each = each both.0 rest }
    where
      each : AreAlike kind ids a v c w → AreListsAlike kind ids a vs c ws → (i : ℕ) (x y : T)
          → slice_get (v ∷ vs) i ≡ Some x → slice_get (w ∷ ws) i ≡ Some y → AreAlike kind ids a x c y
      each first rest zero x y at there = sym (ap (kind.whole c) (some_same w y there)) ∙ first
          ∙ ap (λ t. kind.by_ids ids (kind.whole a t)) (some_same v x at)
      each first rest (suc i) x y at there = rest.each i x y at there

  lists_joined : (vs ws : List T) → AreListsAlike kind ids a vs c ws → AreAlike (row_of kind) ids a vs c ws
  lists_joined [] [] alike = refl
  lists_joined [] (w ∷ ws) alike = absurd (let no = alike.lengths in omega arith)
  lists_joined (v ∷ vs) [] alike = absurd (let no = alike.lengths in omega arith)
  lists_joined (v ∷ vs) (w ∷ ws) alike =
      let rest = lists_joined vs ws (record { lengths = omega (arith, alike.lengths); each = λ i. alike.each (suc i) }) in
      λ i. alike.each zero v w refl refl i ∷ rest i

  pub lists_alike : (vs ws : List T) → AreAlike (row_of kind) ids a vs c ws ↔ AreListsAlike kind ids a vs c ws
  lists_alike vs ws = (lists_apart vs ws, lists_joined vs ws)

module _ {K V S : Type 0} (k : MapTypes K V S) (is_default : S → Type 0) (keys : Kind K) (values : Kind V) (ids : CloneInSemanticIds)
    (a c : Memory) where
  -- the meaning of what is found under a content is that of its value
  found_means : (m : Memory) (o : Option (K × V))
      → of_some (λ (p : K × V). values.whole m p.1) o ≡ of_some (values.whole m) (value_of o)
  found_means m o = grind (arith, nat_tests)

  -- Two maps are alike if and only if what is found under each content is.
  pub maps_alike : (v w : HashMap K V S) → AreAlike (map_of k is_default keys values) ids a v c w ↔ AreMapsAlike k values ids a v c w
  maps_alike v w = (
    (λ same q. (found q).0 (sym (found_means c (map_in k c w q)) ∙ ap (λ (is : List ℕ → Option values.Whole). is q) same
        ∙ ap (of_some (values.by_ids ids)) (found_means a (map_in k a v q)))),
    (λ alike. fun_ext (λ q. found_means c (map_in k c w q) ∙ (found q).1 (alike q)
        ∙ ap (of_some (values.by_ids ids)) (sym (found_means a (map_in k a v q))))),
  )
    where
      found : (q : List ℕ) → AreAlike (option_of values) ids a (value_of (map_in k a v q)) c (value_of (map_in k c w q))
          ↔ AreOptionsAlike values ids a (value_of (map_in k a v q)) c (value_of (map_in k c w q))
      found q = options_alike values ids a c (value_of (map_in k a v q)) (value_of (map_in k c w q))

  some_of : {A B : Type 0} (f : A → B) (o : Option A) → is_some (of_some f o) ≡ is_some o
  some_of f o = grind (arith, nat_tests)

  -- The same contents are keys of both then.
  pub alike_keys : (v w : HashMap K V S) → AreAlike (map_of k is_default keys values) ids a v c w
      → (q : List ℕ) → has (map_in k a v) q ≡ has (map_in k c w) q
  alike_keys v w same q =
      sym (some_of (values.by_ids ids) (of_some (λ (p : K × V). values.whole a p.1) (map_in k a v q))
      ∙ some_of (λ (p : K × V). values.whole a p.1) (map_in k a v q))
      ∙ ap (λ (is : List ℕ → Option values.Whole). is_some (is q)) (sym same)
      ∙ some_of (λ (p : K × V). values.whole c p.1) (map_in k c w q)
