-- Sets of numbers as bits.
use Rattle.std.proofs.Common.{◌≡◌, ℕ, ◌<◌, ◌≤◌, min, refl, ap, ◌∙◌, arith, Bool, false, not, ◌&&◌, ◌||◌, is_some, Option, Some, None, [], IsTrue}
use Rattle.std.specs.Prelude.{nat_lt, if◌then◌else◌}
use Rattle.std.proofs.lemmas.Bool.{cases_lt}
use Rattle.std.proofs.lemmas.Bool.Decides.{nat_tests}
use Rattle.arena_rules.specs.Bits.{Set, nothing, with_bit, without_bit, joined, below}
use Rattle.script_rules.specs.Objects.{Bits, get, has, bind, unbind, united, are_rising}
use Rattle.script_rules.proofs.EntryLemmas.{rising_united}
use Rattle.script_rules.proofs.LookupLemmas.{has_united}
use Rattle.arena_script.specs.Things.{bits_below}
use Rattle.arena_script.proofs.EntryFacts.{get_at, get_past, rising_from, entries_are, entries_with, entries_without}

abbrev mark : Bool → Option (Unit {0})
mark b = if b then Some tt else None

some_mark : (b : Bool) → is_some (mark b) ≡ b
some_mark b = grind (arith, nat_tests)

-- an entry of a bit has just one possible value
marked : (o : Option (Unit {0})) → o ≡ mark (is_some o)
marked o = grind (arith, nat_tests)

module _ (end : ℕ) (set : Set) where
  pub rising : IsTrue (are_rising (bits_below end set))
  rising = rising_from (λ n. mark (set n)) end 0

  get_bit : (q : ℕ) → q < end → get (bits_below end set) q ≡ mark (set q)
  get_bit q low = get_at (λ n. mark (set n)) end 0 q (omega arith) (omega arith)

  no_bit : (q : ℕ) → end ≤ q → get (bits_below end set) q ≡ None
  no_bit q high = get_past (λ n. mark (set n)) end 0 q (omega arith)

  -- which bits there are
  pub has_below : (q : ℕ) → has (bits_below end set) q ≡ below end set q
  has_below q = grind (arith, nat_tests, cases_lt, is_some, get_bit, some_mark, no_bit)

  with_mark : (s t : Bool) → (if t then Some tt else mark s) ≡ mark (s || t)
  with_mark s t = grind (arith, nat_tests)

  -- A bit more, in both.
  pub bits_with : (bit : ℕ) → bit < end → bits_below end (with_bit set bit) ≡ bind (bits_below end set) bit tt
  bits_with bit inside = grind (arith, nat_tests, entries_with, with_mark)

  without_mark : (s t : Bool) → (if t then None else mark s) ≡ mark (s && not t)
  without_mark s t = grind (arith, nat_tests)

  -- A bit less, in both.
  pub bits_without : (bit : ℕ) → bits_below end (without_bit set bit) ≡ unbind (bits_below end set) bit
  bits_without bit = grind (arith, nat_tests, entries_without, without_mark)

-- Those of two sets, in both.
module _ (end other_end : ℕ) (set other : Set) where
  abbrev limit : ℕ
  limit = min end other_end

  abbrev all : Bits
  all = united limit (bits_below end set) (bits_below other_end other)

  abbrev both : Set
  both = joined set (below limit other)

  told : (q : ℕ) → has all q ≡ (below end set q || (nat_lt q limit && below other_end other q))
  told q = has_united limit (bits_below end set) (bits_below other_end other) q
      ∙ (λ i. has_below end set q i || (nat_lt q limit && has_below other_end other q i))

  alike : (q : ℕ) → q < end → (below end set q || (nat_lt q limit && below other_end other q)) ≡ both q
  alike q low = grind (arith, nat_tests, cases_lt)

  within : (q : ℕ) → q < end → get all q ≡ mark (both q)
  within q low = marked (get all q) ∙ ap mark (told q ∙ alike q low)

  past : (q : ℕ) → end ≤ q → get all q ≡ None
  past q high =
      let t : nat_lt q end ≡ false = grind (arith, nat_tests) in
      let u : nat_lt q limit ≡ false = grind (arith, nat_tests) in
      let none : has all q ≡ false = told q ∙ rw (t, u) refl in marked (get all q) ∙ ap mark none

  pub bits_joined : bits_below end both ≡ all
  bits_joined = entries_are (λ n. mark (both n)) end all
      (rising_united limit (bits_below end set) (bits_below other_end other) (rising end set)) within past

-- No bits.
pub bits_none : (end : ℕ) → bits_below end nothing ≡ []
bits_none end = entries_are (λ n. mark false) end [] refl (λ q low. refl) (λ q high. refl)

-- for automatic proof of whether a set has a bit
pub ruleset bit_told = (has_below, nat_tests)
