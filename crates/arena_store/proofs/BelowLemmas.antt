-- Which of a table's bases is the last at or below an address.
use Rattle.std.proofs.lemmas.Bool.Decides.{nat_tests}
use Rattle.std.proofs.Common.{◌≡◌, ℕ, zero, suc, ◌+◌, ◌-◌, ◌*◌, ◌^◌, ◌≤◌, ◌<◌, ◌/◌, arith, List, length, inl, inr, ap, ◌∙◌, Bool, true, false, refl, leb-true, leb-false}
use Rattle.std.specs.Prelude.{slice_index, nat_le}
use Rattle.std.specs.List.Sorted.{IsStrictlyIncreasing}
use Rattle.std.proofs.lemmas.Bool.{cases_lt}
use Rattle.std.proofs.Math.Nat.{mul-le-mul_left, add-mul, mul-add, two-pow-succ}
use Rattle.arena_store.specs.Table.{IsSplit, IsLastBelow}

-- numbers that increase
pub rises : (xs : List ℕ) (i j : ℕ) → IsStrictlyIncreasing xs → i ≤ j → j < length xs → slice_index xs i ≤ slice_index xs j
rises xs i zero up le below = let same : i ≡ 0 = omega arith in rw same (omega arith)
rises xs i (suc j) up le below = elim (cases_lt j i) [
  | inl more ↦ let same : i ≡ suc j = omega arith in rw same (omega arith)
  | inr less ↦ let next : suc j ≡ j + 1 = omega arith in let step : slice_index xs j < slice_index xs (suc j) = rw next (up j (omega arith))
      in omega (arith, rises xs i j up less (omega arith), step)
]

-- one more step, where at most half of what remained remains
pub record IsCost (s m n : ℕ) : Type 0 where
  pub steps : 2 ^ s ≤ 2 * n + 1
  pub left : 2 ^ s * m ≤ n

pub cost_more : (s t m half n : ℕ) → t ≡ suc s → 0 < m → half + half ≤ m → IsCost s m n → IsCost t half n
cost_more s t m half n next some part is =
    let twice = mul-le-mul_left (2 ^ s) part in
    let once = mul-le-mul_left (2 ^ s) some in
    let both = mul-add (2 ^ s) half half in
    let power : 2 ^ t ≡ 2 ^ s + 2 ^ s = ap (λ (k : ℕ). 2 ^ k) next ∙ two-pow-succ s in
    let parts : 2 ^ t * half ≡ 2 ^ s * half + 2 ^ s * half = ap (λ (k : ℕ). k * half) power ∙ add-mul (2 ^ s) (2 ^ s) half in
    record { steps = omega (arith, once, is.left, power); left = omega (arith, twice, both, parts, is.left) }

-- A binary search: the bases below `low` are at most the address, those from `high` on aren't, and s steps were taken.
pub record IsSearch (bases : List ℕ) (addr low high s : ℕ) : Type 0 where
  pub order : low ≤ high
  pub within : high ≤ length bases
  pub under : (k : ℕ) → k < low → slice_index bases k ≤ addr
  pub over : (k : ℕ) → high ≤ k → k < length bases → addr < slice_index bases k
  pub cost : IsCost s (high - low) (length bases)

pub search_first : (bases : List ℕ) (addr n s : ℕ) → n ≡ length bases → s ≡ 0 → IsSearch bases addr 0 n s
search_first bases addr n s all none = grind (arith, nat_tests)

module _ (bases : List ℕ) (addr low high s t : ℕ) (is : IsSearch bases addr low high s) (some : low < high) (next : t ≡ suc s)
    (up : IsStrictlyIncreasing bases) where
  abbrev pub middle : ℕ
  middle = low + (high - low) / 2

  pub search_above : slice_index bases middle ≤ addr → IsSearch bases addr (middle + 1) high t
  search_above at = record {
    order = omega arith;
    within = is.within;
    under = λ k below. omega (arith, at, rises bases k middle up (omega arith) (omega (arith, is.within)));
    over = is.over;
    cost = cost_more s t (high - low) (high - (middle + 1)) (length bases) next (omega arith) (omega arith) is.cost;
  }

  pub search_below : addr < slice_index bases middle → IsSearch bases addr low middle t
  search_below at = record {
    order = omega arith;
    within = omega (arith, is.within);
    under = is.under;
    over = λ k from below. omega (arith, at, rises bases middle k up from below);
    cost = cost_more s t (high - low) (middle - low) (length bases) next (omega arith) (omega arith) is.cost;
  }

pub search_done : (bases : List ℕ) (addr low high s : ℕ) → IsSearch bases addr low high s → high ≤ low
    → IsSplit bases addr low × (2 ^ s ≤ 2 * length bases + 1)
search_done bases addr low high s is done = grind (arith, nat_tests)

-- The split of the first i bases: n of them are at most the address.
pub record IsSplitBelow (bases : List ℕ) (addr i n : ℕ) : Type 0 where
  pub within : n ≤ i
  pub low : (k : ℕ) → k < n → slice_index bases k ≤ addr
  pub above : (k : ℕ) → n ≤ k → k < i → addr < slice_index bases k

pub split_first : (bases : List ℕ) (addr : ℕ) → slice_index bases 0 ≤ addr → IsSplitBelow bases addr 1 1
split_first bases addr first = grind (arith, nat_tests)

-- one more base, which is at most the address
pub split_more : (bases : List ℕ) (addr i n : ℕ) → IsStrictlyIncreasing bases → i < length bases → slice_index bases i ≤ addr
    → IsSplitBelow bases addr i n → IsSplitBelow bases addr (i + 1) (n + 1)
split_more bases addr i n up below under is = grind (arith, nat_tests, cases_lt, rises)

-- one more base, which is above the address
pub split_past : (bases : List ℕ) (addr i n : ℕ) → addr < slice_index bases i → IsSplitBelow bases addr i n
    → IsSplitBelow bases addr (i + 1) n
split_past bases addr i n over is = grind (arith, nat_tests, cases_lt)

-- the last base is read first
pub split_last : (bases : List ℕ) (addr n b : ℕ) → IsStrictlyIncreasing bases → 0 < length bases → n ≡ length bases
    → b ≡ slice_index bases (n - 1) → b ≤ addr → IsSplit bases addr n
split_last bases addr n b up some all at under = grind (arith, nat_tests, rises)

-- the next base is read
pub split_next : (bases : List ℕ) (addr i n b : ℕ) → IsStrictlyIncreasing bases → i < length bases → b ≡ slice_index bases i
    → IsSplitBelow bases addr i n → IsSplitBelow bases addr (i + 1) (n + mir.Val.bool_byte (nat_le b addr))
split_next bases addr i n b up below at is = go (nat_le b addr) refl
  where
    go : (test : Bool) → nat_le b addr ≡ test → IsSplitBelow bases addr (i + 1) (n + mir.Val.bool_byte test)
    go true is_test = split_more bases addr i n up below (omega (arith, at, leb-true _ _ is_test)) is
    go false is_test = let same : n + 0 ≡ n = omega arith in
        rw same (split_past bases addr i n (omega (arith, at, leb-false _ _ is_test)) is)

-- the last base that is at most the address
pub last_split : (bases : List ℕ) (addr n : ℕ) → IsSplit bases addr n → 0 < n → IsLastBelow bases addr (n - 1)
last_split bases addr n is some = grind (arith, nat_tests)
