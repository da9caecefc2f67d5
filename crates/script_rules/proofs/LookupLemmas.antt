-- What is found under names, and which sets of bits there are.
use Rattle.std.proofs.Common.{◌≡◌, ℕ, refl, sym, ap, ◌∙◌, arith, Bool, true, false, cond, not, ◌&&◌, ◌||◌, is_some, IsTrue, Some, None, Option, [], ◌∷◌, nat_cmp}
use Rattle.std.specs.Prelude.{◌==◌, nat_lt, if◌then◌else◌}
use Rattle.std.specs.Ordering.{eq_by_cmp}
use Rattle.std.specs.Cmp.{nat_cmp_total, unsigned_tied}
use Rattle.std.specs.FinMap.{nat_cmp-IsAntisymmetric}
use Rattle.std.specs.FinMap.Entries.{find-put, find-where_key, same_entries}
use Rattle.std.proofs.lemmas.Bool.Decides.{nat_tests}
use Rattle.arena_rules.specs.Bits.{with_bit, without_bit, joined, below}
use Rattle.script_rules.specs.Objects.{Entries, get, bind, unbind, are_rising, Bits, has, united}
use Rattle.script_rules.proofs.EntryLemmas.{to_T}

module _ {X : Type 0} where
  pub get_bind : (es : Entries X) (k : ℕ) (v : X) (q : ℕ) → get (bind es k v) q ≡ (if q == k then Some v else get es q)
  get_bind es k v q = find-put nat_cmp nat_cmp_total q k v es ∙ ap (λ b. cond b (Some v) (get es q)) (unsigned_tied q k)

  turned : (b : Bool) (o : Option X) → cond (not b) o None ≡ cond b None o
  turned b o = grind (arith, nat_tests)

  pub get_unbind : (es : Entries X) (k q : ℕ) → get (unbind es k) q ≡ (if q == k then None else get es q)
  get_unbind es k q =
      find-where_key nat_cmp (λ x. not (eq_by_cmp nat_cmp k x)) q
      (λ x t. ap (λ y. not (eq_by_cmp nat_cmp k y)) (sym (nat_cmp-IsAntisymmetric q x t))) es
      ∙ turned (eq_by_cmp nat_cmp k q) (get es q)
      ∙ ap (λ b. cond b None (get es q)) (unsigned_tied k q ∙ other_way k q)
    where
      other_way : (x y : ℕ) → (x == y) ≡ (y == x)
      other_way x y = grind (arith, nat_tests)

  pub same_by_get : (es fs : Entries X) → IsTrue (are_rising es) → IsTrue (are_rising fs) → ((q : ℕ) → get es q ≡ get fs q) → es ≡ fs
  same_by_get es fs h g same = same_entries nat_cmp nat_cmp_total nat_cmp-IsAntisymmetric es fs (to_T _ h) (to_T _ g) same

-- ---- Bits are a set, and what is done to them is done to it

is_some_if : (b : Bool) (o : Option (Unit {0})) → is_some (if b then Some tt else o) ≡ (is_some o || b)
is_some_if b o = grind (arith, nat_tests)

pub has_bind : (bits : Bits) (b q : ℕ) → has (bind bits b tt) q ≡ with_bit (has bits) b q
has_bind bits b q = ap is_some (get_bind bits b tt q) ∙ is_some_if (q == b) (get bits q)

none_if : (b : Bool) (o : Option (Unit {0})) → is_some (if b then None else o) ≡ (is_some o && not b)
none_if b o = grind (arith, nat_tests)

pub has_unbind : (bits : Bits) (b q : ℕ) → has (unbind bits b) q ≡ without_bit (has bits) b q
has_unbind bits b q = ap is_some (get_unbind bits b q) ∙ none_if (q == b) (get bits q)

-- one step of a union: a bit is added by this one of the other bits, if this one is below the end
one_more : (t a l m s : Bool) → (s ≡ true → l ≡ t) → ((if t then a || s else a) || l && m) ≡ (a || l && (m || s))
one_more t a l m s h = grind (arith, nat_tests)

none_at_all : (a l : Bool) → a ≡ (a || l && false)
none_at_all a l = grind (arith, nat_tests)

has_first : (q : ℕ) (e : ℕ × Unit {0}) (more : Bits) → has (e ∷ more) q ≡ (has more q || q == e.0)
has_first q e more = ap (λ b. is_some (cond b (Some e.1) (get more q))) (unsigned_tied q e.0) ∙ is_some_if (q == e.0) (get more q)

beside : (x y z : ℕ) → (x == y) ≡ true → nat_lt x z ≡ nat_lt y z
beside x y z s = grind (arith, nat_tests)

has_if : (t : Bool) (bits : Bits) (b q : ℕ) → has (if t then bind bits b tt else bits) q ≡ (if t then has bits q || q == b else has bits q)
has_if true bits b q = has_bind bits b q
has_if false bits b q = refl

pub has_united : (end : ℕ) (bits more : Bits) (q : ℕ) → has (united end bits more) q ≡ joined (has bits) (below end (has more)) q
has_united end bits [] q = none_at_all (has bits q) (nat_lt q end)
has_united end bits (e ∷ more) q =
    has_united end (if nat_lt e.0 end then bind bits e.0 tt else bits) more q
    ∙ ap (λ b. b || nat_lt q end && has more q) (has_if (nat_lt e.0 end) bits e.0 q)
    ∙ one_more (nat_lt e.0 end) (has bits q) (nat_lt q end) (has more q) (q == e.0) (beside q e.0 end)
    ∙ ap (λ b. has bits q || nat_lt q end && b) (sym (has_first q e more))

pub ruleset entry_laws = (get_bind, get_unbind, same_by_get)

pub ruleset bit_laws = (has_bind, has_unbind, has_united)
