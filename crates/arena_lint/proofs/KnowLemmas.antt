-- Sets of names and scopes, as texts are given numbers and names are defined.
use Rattle.std.proofs.lemmas.Bool.Decides.{nat_tests, same_from_decides}
use Rattle.std.proofs.Common.{◌≡◌, ℕ, ◌<◌, List, [], ◌∷◌, ◌++◌, length, length-append, refl, sym, ap, ◌∙◌, inl, inr, Some, None, Option, true, false, Bool, is_some, not, arith}
use Rattle.std.specs.Prelude.{if◌then◌else◌, ◌==◌, slice_get, bytes_eq}
use Rattle.std.specs.List.{AllZip}
use Rattle.std.proofs.lemmas.Bool.{cases_Bool, cond-false, eqb-true, eq-eqb, ne_eqb}
use Rattle.std.proofs.lemmas.Option.{same_Some, slice_get_within}
use Rattle.std.proofs.lemmas.Slice.Eq.{bytes_eq-Decides}
use Rattle.arena_symbols.specs.Interner.{number_of, with_text}
use Rattle.arena_symbols.specs.Named.{meant}
use Rattle.arena_symbols.specs.Scoping.{value_in, lookup, is_in_last, with_pair}
use Rattle.arena_symbols.proofs.Layers.{number_push, number_there, value_push}
use Rattle.tree_rules.specs.Report.{NameSet, has_name, have_name, defined}
use Rattle.tree_rules.specs.declared.finding.FindKind.TheVariants.{Redefined, Shadowed}
use Rattle.tree_rules.specs.declared.finding.FindKind.{FindKind}
use Rattle.arena_lint.specs.Knowing.{has_number, IsScope, AreScopes, found_of}

-- What follows for each two follows for all.
pub zip_weaker : {A B : Type 0} (R S : A → B → Type 0) → ((a : A) (b : B) → R a b → S a b) → (xs : List A) (ys : List B) → AllZip R xs ys
    → AllZip S xs ys
zip_weaker R S follows [] [] all = tt
zip_weaker R S follows (x ∷ xs) (y ∷ ys) all = (follows x y all.0, zip_weaker R S follows xs ys all.1)
zip_weaker R S follows _ _ all = absurd all

-- ---- Whether a name is known

pub known_has : (texts : List (List ℕ)) (sets : List NameSet) (scopes : List (List (ℕ × ℕ))) (name : List ℕ) → AreScopes texts sets scopes
    → is_some (meant scopes (number_of texts name)) ≡ have_name sets name
known_has texts [] [] name are = grind arith
known_has texts (names ∷ sets) (scope ∷ scopes) name are = grind (arith, known_has texts sets scopes name are.1, are.0.same name)
known_has texts _ _ name are = absurd are

-- ---- Numbers

abbrev is_number : ℕ → Option ℕ → Bool
is_number id None = false
is_number id (Some j) = id == j

-- A text equals one with a number exactly if it has that number.
same_number : (texts : List (List ℕ)) (name other : List ℕ) (id : ℕ) → number_of texts name ≡ Some id
    → bytes_eq name other ≡ is_number id (number_of texts other)
same_number texts name other id is = same_from_decides (bytes_eq name other) (is_number id (number_of texts other))
    (bytes_eq-Decides name other)
    (to (number_of texts other) refl, λ e. ap (is_number id) (ap (number_of texts) (sym e) ∙ is) ∙ eq-eqb id id refl)
  where
    to : (o : Option ℕ) → number_of texts other ≡ o → is_number id o ≡ true → name ≡ other
    to None none here = absurd (cc)
    to (Some j) there here = same_Some name other
        (sym (number_there name texts id is) ∙ ap (slice_get texts) (eqb-true id j here) ∙ number_there other texts j there)

-- ---- One more text has a number

scope_grown : (texts : List (List ℕ)) (text : List ℕ) → number_of texts text ≡ None → (names : NameSet) (scope : List (ℕ × ℕ))
    → IsScope texts names scope → IsScope (texts ++ text ∷ []) names scope
scope_grown texts text none names scope is = grind (arith, nat_tests, bytes_eq-Decides, number_push, length-append)

pub scopes_grown : (texts : List (List ℕ)) (text : List ℕ) (sets : List NameSet) (scopes : List (List (ℕ × ℕ)))
    → AreScopes texts sets scopes → AreScopes (with_text texts text) sets scopes
scopes_grown texts text sets scopes are = by (number_of texts text) refl
  where
    by : (o : Option ℕ) → number_of texts text ≡ o → AreScopes (if is_some o then texts else texts ++ text ∷ []) sets scopes
    by None none = zip_weaker (IsScope texts) (IsScope (texts ++ text ∷ [])) (scope_grown texts text none) sets scopes are
    by (Some i) some = are

-- ---- One more pair in a scope

scope_defined : {texts : List (List ℕ)} {name : List ℕ} {names : NameSet} {scope : List (ℕ × ℕ)} {id : ℕ} (v : ℕ)
    → number_of texts name ≡ Some id → IsScope texts names scope → IsScope texts (name ∷ names) (scope ++ (id, v) ∷ [])
scope_defined {texts} {name} {names} {scope} {id} v number is = record {
  same = λ n. grind (arith, value_push, same_number texts name n id number, is.same n);
  within = λ j far.
      let low = slice_get_within texts id name (number_there name texts id number) in
      value_push scope id v j ∙ cond-false _ _ _ (ne_eqb id j (λ e. omega (arith, e, far, low))) ∙ is.within j far;
}

-- ---- A definition

-- what is found, by whether the name is new in its set, and whether any set has it
abbrev pub answer : Bool → Bool → Option FindKind
answer is_new is_seen = if is_new then (if is_seen then Some Shadowed else None) else Some Redefined

pub defined_is : (texts : List (List ℕ)) (sets : List NameSet) (scopes after : List (List (ℕ × ℕ))) (name : List ℕ) (id : ℕ)
    (is_new is_seen : Bool) → 0 < length scopes → number_of texts name ≡ Some id → AreScopes texts sets scopes
    → is_new ≡ not (is_in_last scopes id) → is_seen ≡ is_some (lookup scopes id)
    → after ≡ (if is_new then with_pair scopes id 0 else scopes)
    → AreScopes texts (defined name sets).known after × ((defined name sets).findings ≡ found_of (answer is_new is_seen) name)
defined_is texts [] [] after name id is_new is_seen some number are new saw becomes = absurd (omega (arith, some))
defined_is texts (names ∷ outer) (scope ∷ scopes) after name id is_new is_seen some number are new saw becomes =
    let has : has_name names name ≡ is_some (value_in scope id) = are.0.same name ∙ ap (has_number scope) number in
    elim (cases_Bool (is_some (value_in scope id))) [
      | inl there ↦ rw (becomes, new ∙ ap not there, has ∙ there) (are, refl)
      | inr away ↦
          let known = rw number at (known_has texts outer scopes name are.1) in
          let any : is_seen ≡ have_name outer name = grind (arith, saw, away, known) in
          let more : AreScopes texts ((name ∷ names) ∷ outer) ((scope ++ (id, 0) ∷ []) ∷ scopes) = (scope_defined 0 number are.0, are.1) in
          elim (cases_Bool (have_name outer name)) [
            | inl inside ↦ rw (becomes, new ∙ ap not away, has ∙ away, any, inside) (more, refl)
            | inr outside ↦ rw (becomes, new ∙ ap not away, has ∙ away, any, outside) (more, refl)
          ]
    ]
defined_is texts _ _ after name id is_new is_seen some number are new saw becomes = absurd are

-- ---- One more set

pub no_names : (texts : List (List ℕ)) → IsScope texts [] []
no_names texts = record { same = λ name. grind arith; within = λ id far. refl }
