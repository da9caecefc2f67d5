-- Lists in an arena: how their growth is paid.
use Rattle.std.proofs.Common.{◌≡◌, ℕ, ◌+◌, ◌*◌, ◌^◌, ◌<◌, ◌≤◌, arith, inl, inr}
use Rattle.std.proofs.lemmas.Bool.{cases_lt}
use Rattle.std.proofs.lemmas.Bool.Decides.{nat_tests}
use Rattle.std.proofs.lemmas.Option.{slice_get_past}
use Rattle.arena_items.specs.laws.LayoutLaws.{plain_4}
use Rattle.arena_items.specs.Room.{capacity_after}
use Rattle.arena_items.specs.declared.room.Growth.TheVariants.{Stays, GrowsTo}
use Rattle.arena_items.proofs.Layers.{length-elements, row_is_layout, zero_or_more}
use Rattle.arena_vec.specs.Credit.{asked_by, credit_of}
use Rattle.arena_vec.specs.Growth.{amortised, amortised_growth, growth_to, new_growth}
use Rattle.arena_script.proofs.CostFacts.{IsPaid}

-- How lists grow: not at all where there is room, and otherwise without overflow if the numbers fit. Growth is paid
-- ahead, and the capacity never falls.
pub record GrowthRule : Type 0 where
  pub stays : (size cap required wanted : ℕ) → required ≤ cap → growth_to size cap required wanted ≡ Stays
  pub grows : (size cap required wanted : ℕ) → cap < required → required < 2 ^ 32 → required * size < 2 ^ 32
      → growth_to size cap required wanted ≡ GrowsTo wanted

pub record Paid : Type 0 where
  pub keeps : (size cap required : ℕ) → cap ≤ capacity_after (amortised_growth size cap required) cap
  pub asks : (size cap len n : ℕ) → len ≤ cap → 0 < size → (len + n) * (2 * size) ≤ 2 ^ 32
      → asked_by size (amortised_growth size cap (len + n)) + credit_of size (len + n)
      (capacity_after (amortised_growth size cap (len + n)) cap)
      ≤ credit_of size len cap + 4 * n * size

-- One more number is paid by its cost and the list's credit.
pub one_paid : GrowthRule → Paid → (len cap : ℕ) → len ≤ cap → len < 2 ^ 29
    → IsPaid 4 4 cap (amortised_growth 4 cap (len + 1)) 24 (credit_of 4 len cap)
    (credit_of 4 (len + 1) (capacity_after (amortised_growth 4 cap (len + 1)) cap))
one_paid rule paid len cap within few =
    let asked = paid.asks 4 cap len 1 within (omega arith) (omega arith) in
    elim (cases_lt cap (len + 1)) [
      | inr there ↦ (
          let is = rule.stays 4 cap (len + 1) (amortised 4 cap (len + 1)) (omega arith) in rw is (omega (arith, rw is at asked)))
      | inl full ↦ (
          let is = rule.grows 4 cap (len + 1) (amortised 4 cap (len + 1)) full (omega arith) (omega arith) in
          let all = rw is at asked in
          let more : amortised 4 cap (len + 1) < 2 ^ 32 = omega (arith, all) in
          rw is (
            rw is at (paid.keeps 4 cap (len + 1)),
            row_is_layout (amortised 4 cap (len + 1)) 4 4 plain_4 more (omega arith),
            omega (arith, more),
            omega (arith, all),
          ))
    ]

-- A new list is paid by the cost of a copy.
pub all_paid : GrowthRule → (len : ℕ) → len ≤ 2 ^ 29
    → IsPaid 4 4 0 (new_growth 4 len) (24 * len) 0 (credit_of 4 len (capacity_after (new_growth 4 len) 0))
all_paid rule len few = elim (zero_or_more len) [
  | inl none ↦ rw (rule.stays 4 0 len len (omega (arith, none))) (omega (arith, none))
  | inr some ↦ rw (rule.grows 4 0 len len some (omega (arith, few)) (omega (arith, few)))
      (omega arith, row_is_layout len 4 4 plain_4 (omega (arith, few)) (omega arith), omega (arith, few), omega arith)
]

-- for automatic proof of what commands report
pub ruleset told = (slice_get_past, length-elements, nat_tests)
