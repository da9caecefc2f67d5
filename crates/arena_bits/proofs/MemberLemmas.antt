-- The numbers of a set in order.
use Rattle.std.proofs.lemmas.Bool.Decides.{nat_tests}
use Rattle.std.proofs.Common.{◌≡◌, ℕ, zero, suc, ◌+◌, ◌-◌, ◌<◌, ◌≤◌, List, [], ◌∷◌, ◌++◌, length, true, false, IsTrue, ap, arith, refl}
use Rattle.std.proofs.lemmas.List.FromFn.{length-range_with_len, get_or-range_with_len}
use Rattle.std.proofs.lemmas.List.Kept.{IsStrictlyIncreasing-filter}
use Rattle.std.proofs.lemmas.List.Elements.{All-filter, filter_passes, filter-append, Contains-append_right}
use Rattle.std.proofs.lemmas.List.Sums.{length-filter, count_by-le-length}
use Rattle.std.specs.List.{All, Contains, range_with_len}
use Rattle.std.specs.List.Sorted.{IsStrictlyIncreasing}
use Rattle.arena_bits.specs.Bits.{Set, members}

-- consecutive numbers are the first ones and those after them
range_split : (from k m : ℕ) → range_with_len from (k + m) ≡ range_with_len from k ++ range_with_len (from + k) m
range_split from zero m = let none : 0 + m ≡ m = omega arith in let at : from + 0 ≡ from = omega arith in rw (none, at) refl
range_split from (suc k) m =
    let more : suc k + m ≡ suc (k + m) = omega arith in
    let at : from + suc k ≡ from + 1 + k = omega arith in
    rw (more, at) (ap (λ ns. from ∷ ns) (range_split (from + 1) k m))

-- So are the numbers of a set.
members_split : (set : Set) (from mid to : ℕ) → from ≤ mid → mid ≤ to → members set from to ≡ members set from mid ++ members set mid to
unfolding members
members_split set from mid to low high =
    let all : to - from ≡ mid - from + (to - mid) = omega arith in
    let at : from + (mid - from) ≡ mid = omega arith in
    rw (all, range_split from (mid - from) (to - mid), at)
    (filter-append set (range_with_len from (mid - from)) (range_with_len mid (to - mid)))

-- The next number is in the set.
pub members_first : (set : Set) (from to : ℕ) → from < to → set from ≡ true → members set from to ≡ from ∷ members set (from + 1) to
unfolding members
members_first set from to h is_in = let more : to - from ≡ suc (to - (from + 1)) = omega arith in rw (more, is_in) refl

-- There are no more of them than numbers in the range.
pub length-members : (set : Set) (from to : ℕ) → length (members set from to) ≤ to - from
unfolding members
length-members set from to = grind (arith, nat_tests, length-filter, count_by-le-length, length-range_with_len)

-- ---- What they are

-- They are numbers of the set within the bounds,
pub members_given : (set : Set) (from to : ℕ) → All (λ n. (from ≤ n) × (n < to) × IsTrue (set n)) (members set from to)
unfolding members
members_given set from to k d within =
    let all = range_with_len from (to - from) in
    let bounds : All (λ n. (from ≤ n) × (n < to)) all = λ j e below.
    let short : j < to - from = omega (arith, length-range_with_len from (to - from)) in
    rw (get_or-range_with_len from (to - from) j e short) (omega arith, omega arith) in
    let between = All-filter set (λ n. (from ≤ n) × (n < to)) all bounds k d within in
    (between.0, between.1, filter_passes set all k d within)

-- every one of them,
pub members_every : (set : Set) (from to n : ℕ) → from ≤ n → n < to → IsTrue (set n) → Contains (members set from to) n
members_every set from to n low high is_in =
    rw (members_split set from n to low (omega arith), members_first set n to high is_in)
    (Contains-append_right (members set from n) (n ∷ members set (n + 1) to) n (0, omega arith, refl))

-- and they rise.
pub members_rise : (set : Set) (from to : ℕ) → IsStrictlyIncreasing (members set from to)
unfolding members
members_rise set from to = IsStrictlyIncreasing-filter set (range_with_len from (to - from)) (λ k within.
    let next : k + 1 < to - from = omega (arith, length-range_with_len from (to - from)) in
    rw (get_or-range_with_len from (to - from) k 0 (omega arith), get_or-range_with_len from (to - from) (k + 1) 0 next) (omega arith))

-- There is none if the set has no number in the range.
pub members_none : (set : Set) (from to : ℕ) → ((n : ℕ) → from ≤ n → n < to → set n ≡ false) → members set from to ≡ []
members_none set from to none = empty (members set from to) (members_given set from to)
  where
    empty : (ns : List ℕ) → All (λ n. (from ≤ n) × (n < to) × IsTrue (set n)) ns → ns ≡ []
    empty [] given = refl
    empty (n ∷ ns) given =
        let first = given 0 0 (omega arith) in
        let not_in = none n first.0 first.1 in
        cc

-- Such numbers are skipped.
pub members_skip : (set : Set) (from next to : ℕ) → from ≤ next → next ≤ to → ((n : ℕ) → from ≤ n → n < next → set n ≡ false)
    → members set from to ≡ members set next to
members_skip set from next to low high none = rw (members_split set from next to low high, members_none set from next none) refl

-- for automatic proof
pub ruleset member_laws = (members_given, members_every, members_rise, length-members)
