-- Entries of functions.
use Rattle.std.proofs.Common.{◌≡◌, ◌≢◌, ℕ, zero, suc, ◌+◌, ◌<◌, ◌≤◌, refl, sym, ap, ◌∙◌, arith, Bool, true, false, cond, ◌&&◌, Option, Some, None, IsTrue, nat_cmp, is_lt, inl, inr}
use Rattle.std.specs.Prelude.{◌==◌, if◌then◌else◌}
use Rattle.std.specs.Ordering.{eq_by_cmp}
use Rattle.std.specs.FinMap.Entries.{below_all}
use Rattle.std.proofs.lemmas.Bool.{cases_lt}
use Rattle.std.proofs.lemmas.Bool.Decides.{nat_tests}
use Rattle.script_rules.specs.Objects.{Entries, get, bind, unbind, are_rising}
use Rattle.script_rules.proofs.EntryLemmas.{rising_bind, rising_unbind}
use Rattle.script_rules.proofs.LookupLemmas.{same_by_get, get_bind, get_unbind}
use Rattle.arena_script.specs.Things.{entry_then, entries_from, entries_below}

pub tied : (x : ℕ) → eq_by_cmp nat_cmp x x ≡ true
tied x = grind (arith, nat_tests)

untied : (x y : ℕ) → x ≢ y → eq_by_cmp nat_cmp x y ≡ false
untied x y other = grind (arith, nat_tests)

later : (x y : ℕ) → x < y → is_lt (nat_cmp x y) ≡ true
later x y l = grind (arith, nat_tests)

-- a look-up of another key skips an entry
passed : {X : Type 0} (o : Option X) (k q : ℕ) (rest : Entries X) → eq_by_cmp nat_cmp q k ≡ false
    → get (entry_then k o rest) q ≡ get rest q
passed o k q rest other = grind (arith, nat_tests, cond)

module _ {X : Type 0} (f : ℕ → Option X) where
  -- below the first key there is none
  get_low : (n from q : ℕ) → q < from → get (entries_from n from f) q ≡ None
  unfolding entries_from
  get_low zero from q h = refl
  get_low (suc n) from q h = passed (f from) from q _ (untied q from (omega (arith, h))) ∙ get_low n (from + 1) q (omega arith)

  -- At the keys there is what the function gives,
  pub get_at : (n from q : ℕ) → from ≤ q → q < from + n → get (entries_from n from f) q ≡ f q
  unfolding entries_from
  get_at zero from q low high = absurd (omega arith)
  get_at (suc n) from q low high = elim (cases_lt from q) [
    | inl more ↦ passed (f from) from q _ (untied q from (omega (arith, more))) ∙ get_at n (from + 1) q (omega arith) (omega arith)
    | inr less ↦ here (f from) refl (omega arith) (get_low n (from + 1) q (omega arith))
  ]
    where
      here : (o : Option X) → f from ≡ o → q ≡ from → get (entries_from n (from + 1) f) q ≡ None
          → get (entry_then from o (entries_from n (from + 1) f)) q ≡ f q
      here None is same rest = rest ∙ sym is ∙ ap f (sym same)
      here (Some x) is same rest = ap (λ b. cond b (Some x) (get (entries_from n (from + 1) f) q))
          (ap (λ k. eq_by_cmp nat_cmp q k) (sym same) ∙ tied q)
          ∙ sym is ∙ ap f (sym same)

  -- and beyond them nothing.
  pub get_past : (n from q : ℕ) → from + n ≤ q → get (entries_from n from f) q ≡ None
  unfolding entries_from
  get_past zero from q h = refl
  get_past (suc n) from q h =
      passed (f from) from q _ (untied q from (omega (arith, h))) ∙ get_past n (from + 1) q (omega arith)

  -- The keys rise.
  below_from : (n from k : ℕ) → k < from → below_all nat_cmp k (entries_from n from f) ≡ true
  unfolding entries_from
  below_from zero from k h = refl
  below_from (suc n) from k h = by (f from) (below_from n (from + 1) k (omega arith))
    where
      by : (o : Option X) → below_all nat_cmp k (entries_from n (from + 1) f) ≡ true
          → below_all nat_cmp k (entry_then from o (entries_from n (from + 1) f)) ≡ true
      by None rest = rest
      by (Some x) rest = ap (λ b. b && below_all nat_cmp k (entries_from n (from + 1) f)) (later k from h) ∙ rest

  pub rising_from : (n from : ℕ) → are_rising (entries_from n from f) ≡ true
  unfolding entries_from
  rising_from zero from = refl
  rising_from (suc n) from = by (f from) (below_from n (from + 1) from (omega arith)) (rising_from n (from + 1))
    where
      by : (o : Option X) → below_all nat_cmp from (entries_from n (from + 1) f) ≡ true → are_rising (entries_from n (from + 1) f) ≡ true
          → are_rising (entry_then from o (entries_from n (from + 1) f)) ≡ true
      by None above rest = rest
      by (Some x) above rest = ap (λ b. b && are_rising (entries_from n (from + 1) f)) above ∙ rest

  -- Rising entries that have at each key below the end what the function gives, and none past it, are its entries.
  pub entries_are : (end : ℕ) (es : Entries X) → IsTrue (are_rising es) → ((q : ℕ) → q < end → get es q ≡ f q)
      → ((q : ℕ) → end ≤ q → get es q ≡ None) → entries_below end f ≡ es
  entries_are end es rising within past = same_by_get (entries_below end f) es (rising_from end 0) rising by_key
    where
      by_key : (q : ℕ) → get (entries_below end f) q ≡ get es q
      by_key q = elim (cases_lt q end) [
        | inl low ↦ get_at end 0 q (omega arith) (omega arith) ∙ sym (within q low)
        | inr high ↦ get_past end 0 q (omega arith) ∙ sym (past q high)
      ]

-- Two functions that differ at one key have entries that differ there.
module _ {X : Type 0} (f g : ℕ → Option X) (end key : ℕ) where
  abbrev old_entries : Entries X
  old_entries = entries_below end f

  rising_old : IsTrue (are_rising old_entries)
  rising_old = rising_from f end 0

  pub entries_with : (x : X) → key < end → ((q : ℕ) → q < end → g q ≡ (if q == key then Some x else f q))
      → entries_below end g ≡ bind old_entries key x
  entries_with x inside differ = entries_are g end (bind old_entries key x) (rising_bind old_entries key x rising_old)
      (λ q low. get_bind old_entries key x q ∙ ap (λ o. if q == key then Some x else o) (get_at f end 0 q (omega arith) (omega arith))
      ∙ sym (differ q low))
      (λ q high. get_bind old_entries key x q
      ∙ ap (λ b. if b then Some x else get old_entries q) (let t : (q == key) ≡ false = grind (arith, nat_tests) in t)
      ∙ get_past f end 0 q (omega arith))

  pub entries_without : ((q : ℕ) → q < end → g q ≡ (if q == key then None else f q)) → entries_below end g ≡ unbind old_entries key
  entries_without differ = entries_are g end (unbind old_entries key) (rising_unbind old_entries key rising_old)
      (λ q low. get_unbind old_entries key q ∙ ap (λ o. if q == key then None else o) (get_at f end 0 q (omega arith) (omega arith))
      ∙ sym (differ q low))
      (λ q high. get_unbind old_entries key q ∙ either (q == key) (get_past f end 0 q (omega arith)))
    where
      either : (b : Bool) {o : Option X} → o ≡ None → (if b then None else o) ≡ None
      either true e = refl
      either false e = e
