-- Maps from contents as entries by rising keys.
use Rattle.std.proofs.Common.{◌≡◌, ℕ, ◌^◌, ◌<◌, refl, sym, ap, ◌∙◌, arith, Bool, true, false, is_some, Option, Some, None, [], IsTrue, eqb-true, inl, inr}
use Rattle.std.specs.Prelude.{◌==◌, ◌≢◌, if◌then◌else◌, bytes_eq}
use Rattle.std.specs.Int.{w32, from_le_bytes}
use Rattle.std.proofs.lemmas.Bool.{cases_Bool}
use Rattle.std.proofs.lemmas.Bool.Decides.{nat_tests}
use Rattle.std.proofs.lemmas.Slice.Eq.{bytes_eq-Decides}
use Rattle.arena_items.specs.laws.NumberLaws.{bytes_back}
use Rattle.arena_hash.specs.Finite.{Finite, empty, has, value_of, with_pair, without}
use Rattle.script_rules.specs.Objects.{get, bind, unbind, are_rising}
use Rattle.arena_script.specs.Things.{content, pairs_of}
use Rattle.arena_script.proofs.EntryFacts.{get_at, rising_from, entries_are, entries_with, entries_without}

-- keys with one content are one
same_key : (q k : ℕ) → q < 2 ^ 32 → k < 2 ^ 32 → content q ≡ content k → q ≡ k
same_key q k low small same = sym (bytes_back 3 q low) ∙ ap (from_le_bytes w32) same ∙ bytes_back 3 k small

pub content_eq : (q k : ℕ) → q < 2 ^ 32 → k < 2 ^ 32 → bytes_eq (content q) (content k) ≡ (q == k)
content_eq q k low small = elim (cases_Bool (q == k)) [
  | inl t ↦ (bytes_eq-Decides (content q) (content k)).1 (ap content (eqb-true q k t)) ∙ sym t
  | inr f ↦ not_true (bytes_eq (content q) (content k))
      (λ t. other q k f (same_key q k low small ((bytes_eq-Decides (content q) (content k)).0 t))) ∙ sym f
]
  where
    not_true : (b : Bool) → (b ≡ true → ⊥) → b ≡ false
    not_true true h = absurd (h refl)
    not_true false h = refl

    other : (q k : ℕ) → (q == k) ≡ false → q ≢ k
    other q k f e = grind (arith, nat_tests)

pub value_some : (o : Option (ℕ × ℕ)) → is_some (value_of o) ≡ is_some o
value_some o = grind (arith, nat_tests)

module _ (is : Finite ℕ ℕ) where
  pub rising : IsTrue (are_rising (pairs_of is))
  rising = rising_from (λ key. value_of (is (content key))) (2 ^ 32) 0

  -- the value of a key
  pub get_pair : (key : ℕ) → key < 2 ^ 32 → get (pairs_of is) key ≡ value_of (is (content key))
  get_pair key low = get_at (λ key. value_of (is (content key))) (2 ^ 32) 0 key (omega arith) (omega arith)

  pub has_pair : (key : ℕ) → key < 2 ^ 32 → is_some (get (pairs_of is) key) ≡ has is (content key)
  has_pair key low = ap is_some (get_pair key low) ∙ value_some (is (content key))

  value_if : (b : Bool) (p : ℕ × ℕ) (o : Option (ℕ × ℕ)) → value_of (if b then Some p else o) ≡ (if b then Some p.1 else value_of o)
  value_if b p o = grind (arith, nat_tests)

  -- A pair more, in both.
  pub pairs_with : (key value : ℕ) → key < 2 ^ 32 → pairs_of (with_pair is (content key) key value) ≡ bind (pairs_of is) key value
  pairs_with key value small = grind (arith, nat_tests, entries_with, value_if)

  value_unless : (b : Bool) (o : Option (ℕ × ℕ)) → value_of (if b then None else o) ≡ (if b then None else value_of o)
  value_unless b o = grind (arith, nat_tests)

  -- A key less, in both.
  pub pairs_without : (key : ℕ) → key < 2 ^ 32 → pairs_of (without is (content key)) ≡ unbind (pairs_of is) key
  pairs_without key small = grind (arith, nat_tests, entries_without, value_unless)

-- no pairs
pub pairs_none : pairs_of empty ≡ []
pairs_none = entries_are (λ key. None) (2 ^ 32) [] refl (λ q low. refl) (λ q high. refl)
