-- The names of marks in a tree, and marks in a vector, oldest first.
use Rattle.std.proofs.lemmas.Bool.Decides.{nat_tests}
use Rattle.std.proofs.Common.{◌≡◌, ℕ, ◌+◌, ◌-◌, ◌<◌, ◌≤◌, ap, refl, sym, ◌∙◌, arith, List, [], ◌∷◌, Bool, cond, true, false, IsTrue, length, reverse, take, get_or}
use Rattle.std.specs.Prelude.{◌==◌}
use Rattle.std.specs.Option.{is_some}
use Rattle.std.specs.List.{list_any}
use Rattle.std.specs.Ordering.{nat_cmp}
use Rattle.std.specs.Cmp.{unsigned_tied}
use Rattle.std.specs.BTreeMap.{is_at}
use Rattle.std.specs.BTreeSet.{BTreeSet, Updates, contains}
use Rattle.std.proofs.lemmas.List.{reverse-append, take_more, take_all}
use Rattle.call_rules.specs.Machine.{mark_named}
use Rattle.arena_runs.specs.Marks.{named, marks_from, Knows}
use Rattle.arena_runs.specs.declared.marks.Mark.{Mark}

-- ---- The set

pub knows_none : (s : BTreeSet ℕ) → s.keys ≡ [] → Knows s []
knows_none s none = record { distinct = tt; names = λ q. ap (list_any (is_at (nat_cmp q))) none }

-- the set has what it had, except for the mark's name
others : (s n : BTreeSet ℕ) (m : Mark) (is : Bool) → Updates nat_cmp s n m.name is → (q : ℕ)
    → contains nat_cmp n q ≡ cond (m.name == q) is (contains nat_cmp s q)
others s n m is updates q = updates.0 q ∙ ap (λ (b : Bool). cond b is (contains nat_cmp s q)) (unsigned_tied m.name q)

-- ---- The vector

-- the newest of the first `count` marks is the last of them
pub newest_first : (items : List Mark) (count : ℕ) (m : Mark) → 0 < count → count ≤ length items → m ≡ get_or items (count - 1) m
    → reverse (take count items) ≡ m ∷ reverse (take (count - 1) items)
newest_first items count m some within is =
    let back : count - 1 + 1 ≡ count = omega arith in
    ap (λ (n : ℕ). reverse (take n items)) (sym back) ∙ ap reverse (take_more items (count - 1) m (omega arith))
    ∙ reverse-append (take (count - 1) items) (get_or items (count - 1) m ∷ [])
    ∙ ap (λ (x : Mark). x ∷ reverse (take (count - 1) items)) (sym is)

-- ---- Marks that end

-- The newest marks, down to `count`, aren't the name's.
pub record IsEnding (known : BTreeSet ℕ) (items : List Mark) (count name : ℕ) : Type 0 where
  pub some : 0 < count
  pub within : count ≤ length items
  pub knows : Knows known (reverse (take count items))
  pub from : marks_from name (reverse (take count items)) ≡ marks_from name (reverse items)
  pub found : IsTrue (is_some (mark_named (named (reverse (take count items))) name))

found_some : (items : List Mark) (count name : ℕ) → IsTrue (is_some (mark_named (named (reverse (take count items))) name)) → 0 < count
found_some items count name found = grind (arith, nat_tests)

pub ending_first : (known : BTreeSet ℕ) (items : List Mark) (name : ℕ) → Knows known (reverse items)
    → IsTrue (is_some (mark_named (named (reverse items)) name))
    → IsEnding known items (length items) name
ending_first known items name knows found =
    let all = take_all (length items) items (omega arith) in
    let there : IsTrue (is_some (mark_named (named (reverse (take (length items) items))) name)) = rw all found in
    record {
      some = found_some items (length items) name there;
      within = omega arith;
      knows = rw all knows;
      from = rw all refl;
      found = there;
    }

pub ending_next : (known n : BTreeSet ℕ) (items : List Mark) (count name : ℕ) (m : Mark) → m ≡ get_or items (count - 1) m
    → (m.name == name) ≡ false
    → Updates nat_cmp known n m.name false → IsEnding known items count name → IsEnding n items (count - 1) name
ending_next known n items count name m is other updates ending = grind (arith, nat_tests, reverse, newest_first, found_some)

pub ending_over : (known : BTreeSet ℕ) (items : List Mark) (count name : ℕ) (m : Mark) → m ≡ get_or items (count - 1) m
    → (m.name == name) ≡ true
    → IsEnding known items count name → reverse (take count items) ≡ marks_from name (reverse items)
ending_over known items count name m is own ending = grind (arith, nat_tests, reverse, newest_first)
