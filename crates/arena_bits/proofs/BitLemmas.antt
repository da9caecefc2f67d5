-- Bits of words.
use Rattle.std.proofs.Common.{◌≡◌, ℕ, ◌*◌, ◌/◌, ◌%◌, ◌^◌, ◌<◌, List, length, eqb, get_or, set, ap, sym, inl, inr, arith, w64}
use Rattle.std.proofs.lemmas.Bool.{cases_eq}
use Rattle.std.proofs.lemmas.Bool.Decides.{nat_tests}
use Rattle.std.proofs.lemmas.List.{get_or-set_same, get_or-set_other}
use Rattle.std.proofs.lemmas.Nat.Bits.{shr_and_one, bit_at_set_same, bit_at_set_other, bit_at_clear_same, bit_at_clear_other}
use Rattle.std.specs.Prelude.{bit_and, bit_or, ◌≢◌}
use Rattle.std.specs.Int.{bit_at, bit_not}
use Rattle.arena_bits.specs.Bits.{Set, bits_of, with_bit, without_bit}

-- A number's bit is the test `word >> k & 1 == 1` of the word that has it.
pub bit_tested : (words : List ℕ) (n : ℕ) → bits_of words n ≡ eqb (bit_and (get_or words (n / 64) 0 / 2 ^ (n % 64)) 1) 1
unfolding bits_of
bit_tested words n = ap (λ b. eqb b 1) (sym (shr_and_one (get_or words (n / 64) 0) (n % 64)))

module _ (words : List ℕ) (n : ℕ) (within : n / 64 < length words) where
  -- If a word is replaced by one that differs in one bit, the set differs in one number.
  bits_replaced : (x : ℕ) (changed : Set) → eqb (bit_at x (n % 64)) 1 ≡ changed n
      → ((j : ℕ) → j < 64 → j ≢ n % 64 → bit_at x j ≡ bit_at (get_or words (n / 64) 0) j)
      → ((i : ℕ) → i ≢ n → bits_of words i ≡ changed i) → bits_of (set words (n / 64) x) ≡ changed
  unfolding bits_of
  bits_replaced x changed here others same = λ p i. each i p
    where
      each : (i : ℕ) → bits_of (set words (n / 64) x) i ≡ changed i
      each i = elim (cases_eq (i / 64) (n / 64)) [
        | inl one ↦ rw (one, get_or-set_same words (n / 64) x 0 within) (elim (cases_eq (i % 64) (n % 64)) [
          | inl bit ↦ let all : i ≡ n = omega arith in rw all here
          | inr bit ↦ rw (others (i % 64) (omega arith) bit, ← one) (same i (omega arith))
        ])
        | inr other ↦ rw (get_or-set_other words (n / 64) (i / 64) x 0 other) (same i (omega arith))
      ]

  -- A bit is set, and cleared.
  pub bits_raised : bits_of (set words (n / 64) (bit_or (get_or words (n / 64) 0) (1 * 2 ^ (n % 64) % 2 ^ 64))) ≡ with_bit (bits_of words) n
  bits_raised = bits_replaced _ _ (rw (bit_at_set_same w64 (get_or words (n / 64) 0) (n % 64) (omega arith)) (grind (arith, nat_tests)))
      (λ j small other. bit_at_set_other w64 (get_or words (n / 64) 0) (n % 64) (omega arith) j other) (λ i other. grind (arith, nat_tests))

  pub bits_lowered : bits_of (set words (n / 64) (bit_and (get_or words (n / 64) 0) (bit_not w64 (1 * 2 ^ (n % 64) % 2 ^ 64))))
      ≡ without_bit (bits_of words) n
  bits_lowered = bits_replaced _ _ (rw (bit_at_clear_same w64 (get_or words (n / 64) 0) (n % 64) (omega arith)) (grind (arith, nat_tests)))
      (λ j small other. bit_at_clear_other w64 (get_or words (n / 64) 0) (n % 64) (omega arith) j small other)
      (λ i other. grind (arith, nat_tests))
