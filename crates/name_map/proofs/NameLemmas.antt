-- Names whose values are in a list or in a tree: what changes with a value in the list, or in the tree.
use Rattle.std.proofs.Common.{◌≡◌, ℕ, zero, suc, ◌+◌, ◌<◌, ◌≤◌, ap, refl, sym, ◌∙◌, arith, List, [], ◌∷◌, ◌++◌, Option, Some, None, length, get_or, drop, replicate}
use Rattle.std.specs.Prelude.{slice_set, ◌==◌, if◌then◌else◌}
use Rattle.std.specs.Option.{option_or}
use Rattle.std.specs.Ordering.{nat_cmp}
use Rattle.std.specs.Cmp.{unsigned_tied, nat_cmp_total}
use Rattle.std.specs.BTreeMap as tree
use Rattle.std.specs.BTreeMap.{BTreeMap, Updates}
use Rattle.std.specs.FinMap.{FinMap, get, insert, remove, from_entries, entries, find, put, get-entries, entries-insert}
use Rattle.std.proofs.lemmas.Bool.Decides.{nat_tests}
use Rattle.std.proofs.lemmas.Option.{none-some}
use Rattle.std.proofs.lemmas.List.{get_or-set_same, get_or-set_other, get_or_default, get_or_past, drop_more}
use Rattle.name_map.specs.Names.{named_with, HasNoneBelow}
use Rattle.name_map.proofs.EntryLemmas.{same, after_insert, after_remove}
use Rattle.name_map.proofs.MapLemmas.{tree_get}

module _ {X : Type 0} where
  -- a name before the list's has what the others hold
  before : (i : ℕ) (values : List (Option X)) (others : FinMap nat_cmp X) (q : ℕ) → q < i → get (named_with i values others) q ≡ get others q
  before i [] others q low = refl
  before i (None ∷ values) others q low = before (i + 1) values others q (omega arith)
  before i (Some v ∷ values) others q low =
      grind (arith, nat_tests, after_insert (named_with (i + 1) values others) i v q, before (i + 1) values others q (omega arith))

  -- any other has the list's value, or else what the others hold
  named : (i : ℕ) (values : List (Option X)) (others : FinMap nat_cmp X) (k q : ℕ) → q ≡ i + k
      → get (named_with i values others) q ≡ option_or (get_or values k None) (get others q)
  named i [] others k q at = refl
  named i (None ∷ values) others zero q at = before (i + 1) values others q (omega arith)
  named i (Some v ∷ values) others zero q at = grind (arith, nat_tests, after_insert (named_with (i + 1) values others) i v q)
  named i (None ∷ values) others (suc k) q at = named (i + 1) values others k q (omega arith)
  named i (Some v ∷ values) others (suc k) q at =
      grind (arith, nat_tests, after_insert (named_with (i + 1) values others) i v q, named (i + 1) values others k q (omega arith))

  -- what names hold whose values are in the list or the tree, of which the tree's are from 256 on
  abbrev pub held : List (Option X) → BTreeMap ℕ X → FinMap nat_cmp X
  held values m = named_with 0 values (from_entries m.entries)

  abbrev pub AreApart : List (Option X) → BTreeMap ℕ X → Type 0
  AreApart values m = (length values ≤ 256) × HasNoneBelow 256 (from_entries m.entries)

  held_get : (values : List (Option X)) (m : BTreeMap ℕ X) (q : ℕ)
      → get (held values m) q ≡ option_or (get_or values q None) (tree.get nat_cmp m q)
  held_get values m q = named 0 values _ q q (omega arith) ∙ ap (option_or (get_or values q None)) (tree_get m q)

  or_none : (o : Option X) → option_or o None ≡ o
  or_none None = refl
  or_none (Some x) = refl

  none_in : (values : List (Option X)) (m : BTreeMap ℕ X) (q : ℕ) → AreApart values m → q < length values → tree.get nat_cmp m q ≡ None
  none_in values m q apart within = sym (tree_get m q) ∙ apart.1 q (omega arith)

  pub get_first : (values : List (Option X)) (m : BTreeMap ℕ X) (q : ℕ) (d : Option X) → AreApart values m → q < length values
      → get_or values q d ≡ get (held values m) q
  get_first values m q d apart within = get_or_default values q d None within ∙ sym (held_get values m q
      ∙ ap (option_or (get_or values q None)) (none_in values m q apart within) ∙ or_none (get_or values q None))

  pub get_other : (values : List (Option X)) (m : BTreeMap ℕ X) (q : ℕ) → length values ≤ q
      → tree.get nat_cmp m q ≡ get (held values m) q
  get_other values m q past = sym (held_get values m q ∙ ap (λ o. option_or o (tree.get nat_cmp m q)) (get_or_past values q None past))

  -- the map with another value for a name, or none
  abbrev pub changed : FinMap nat_cmp X → ℕ → Option X → FinMap nat_cmp X
  changed m k None = remove m k
  changed m k (Some v) = insert m k v

  after_change : (m : FinMap nat_cmp X) (k : ℕ) (o : Option X) (q : ℕ) → get (changed m k o) q ≡ (if q == k then o else get m q)
  after_change m k None q = after_remove m k q
  after_change m k (Some v) q = after_insert m k v q

  held_changed : (values more : List (Option X)) (m n : BTreeMap ℕ X) (k : ℕ) (o : Option X)
      → ((q : ℕ) → option_or (get_or more q None) (tree.get nat_cmp n q)
      ≡ (if q == k then o else option_or (get_or values q None) (tree.get nat_cmp m q)))
      → held more n ≡ changed (held values m) k o
  held_changed values more m n k o each = same _ _ (λ q. held_get more n q ∙ each q
      ∙ ap (λ r. if q == k then o else r) (sym (held_get values m q)) ∙ sym (after_change (held values m) k o q))

  -- a place in the list that becomes another
  pub set_first : (values : List (Option X)) (m : BTreeMap ℕ X) (k : ℕ) (o : Option X) → AreApart values m → k < length values
      → held (slice_set values k o) m ≡ changed (held values m) k o
  set_first values m k o apart within = held_changed values (slice_set values k o) m m k o (λ q.
      grind (arith, nat_tests, get_or-set_same values k o None within, get_or-set_other values k q o None, none_in values m k apart within, or_none o))

  -- a name past the list
  pub set_other : (values : List (Option X)) (m n : BTreeMap ℕ X) (k : ℕ) (o : Option X) → length values ≤ k → Updates nat_cmp m n k o
      → held values n ≡ changed (held values m) k o
  set_other values m n k o past updates = held_changed values values m n k o (λ q.
      grind (arith, nat_tests, updates.0 q, unsigned_tied k q, get_or_past values k None past))

  pub apart_other : (values : List (Option X)) (m n : BTreeMap ℕ X) (k : ℕ) (o : Option X) → (k < 256 → o ≡ None)
      → Updates nat_cmp m n k o → AreApart values m → AreApart values n
  apart_other values m n k o none updates apart = (
    apart.0,
    λ q low. let before = apart.1 q low in
        grind (arith, nat_tests, none, updates.0 q, unsigned_tied k q, tree_get m q, tree_get n q),
  )

  -- a name past the list that joins it
  padded : (values : List (Option X)) (n q : ℕ) → get_or (values ++ replicate n None) q None ≡ get_or values q None
  padded [] zero q = refl
  padded [] (suc n) zero = refl
  padded [] (suc n) (suc q) = padded [] n q
  padded (v ∷ values) n zero = refl
  padded (v ∷ values) n (suc q) = padded values n q

  pub insert_next : (values more : List (Option X)) (n : ℕ) (m : BTreeMap ℕ X) (k : ℕ) (v : X) → more ≡ values ++ replicate n None
      → AreApart more m → k < length more → held (slice_set more k (Some v)) m ≡ insert (held values m) k v
  insert_next values more n m k v is apart within = set_first more m k (Some v) apart within
      ∙ ap (λ h. insert h k v) (same _ _ (λ q. held_get more m q ∙ ap (λ o. option_or o (tree.get nat_cmp m q))
      (ap (λ xs. get_or xs q None) is ∙ padded values n q) ∙ sym (held_get values m q)))

  -- a list with no value
  pub named_none : (i : ℕ) (values : List (Option X)) (others : FinMap nat_cmp X)
      → ((k : ℕ) → k < length values → get_or values k None ≡ None) → named_with i values others ≡ others
  named_none i [] others none = refl
  named_none i (None ∷ values) others none = named_none (i + 1) values others (λ k within. none (suc k) (omega (arith, within)))
  named_none i (Some v ∷ values) others none = absurd (none-some v (sym (none 0 (omega arith))))

  -- ---- Entries

  put_least : (es : List (ℕ × X)) (k : ℕ) (v : X) → ((q : ℕ) → q < k + 1 → find nat_cmp q es ≡ None) → put nat_cmp k v es ≡ (k, v) ∷ es
  put_least [] k v none = refl
  put_least (e ∷ es) k v none = grind (arith, nat_tests, none e.0, unsigned_tied e.0 e.0)

  insert_least : (m : FinMap nat_cmp X) (k : ℕ) (v : X) → HasNoneBelow (k + 1) m → entries (insert m k v) ≡ (k, v) ∷ entries m
  insert_least m k v none = entries-insert nat_cmp_total m k v ∙ put_least (entries m) k v (λ q low. sym (get-entries m q) ∙ none q low)

  -- the entries from a name on whose value is in the list, or which has none there
  pub entries_some : (values : List (Option X)) (m : BTreeMap ℕ X) (at : ℕ) (o : Option X) (v : X) → AreApart values m → at < length values
      → o ≡ get_or values at o → o ≡ Some v
      → entries (named_with at (drop at values) (from_entries m.entries))
      ≡ (at, v) ∷ entries (named_with (at + 1) (drop (at + 1) values) (from_entries m.entries))
  entries_some values m at o v apart within is some =
      let rest = named_with (at + 1) (drop (at + 1) values) (from_entries m.entries) in
      let here : named_with at (drop at values) (from_entries m.entries) ≡ insert rest at v = grind (arith, nat_tests, drop_more) in
      ap entries here ∙ insert_least rest at v (λ q low. before (at + 1) (drop (at + 1) values) _ q low ∙ apart.1 q (omega arith))

  pub entries_none : (values : List (Option X)) (m : BTreeMap ℕ X) (at : ℕ) (o : Option X) → at < length values
      → o ≡ get_or values at o → o ≡ None
      → named_with at (drop at values) (from_entries {R = nat_cmp} m.entries)
      ≡ named_with (at + 1) (drop (at + 1) values) (from_entries m.entries)
  entries_none values m at o within is none = grind (arith, nat_tests, drop_more)
