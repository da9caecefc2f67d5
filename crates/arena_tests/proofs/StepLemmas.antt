-- How many steps a search takes in few chunks.
use Rattle.std.proofs.Common.{ℕ, inl, inr, ◌+◌, ◌-◌, ◌*◌, ◌^◌, ◌≤◌, arith}
use Rattle.std.proofs.Math.Pow.{pow_mono}
use Rattle.std.proofs.lemmas.Bool.{cases_lt}

-- in at most three chunks at most two
pub two_steps : (new old n : ℕ) → 2 ^ (new - old) ≤ 2 * n + 1 → n ≤ 3 → new ≤ old + 2
two_steps new old n cost few = elim (cases_lt 2 (new - old)) [
  | inl more ↦ let eight : 8 ≤ 2 ^ (new - old) = pow_mono more in absurd (omega (arith, eight, cost, few))
  | inr less ↦ omega (arith, less)
]
