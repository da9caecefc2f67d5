-- A bit for each of sixty-four bytes, and the lowest bit of a word.
use Rattle.std.proofs.Common.{◌≡◌, ◌≢◌, ◌↔◌, ℕ, zero, suc, ◌+◌, ◌-◌, ◌/◌, ◌^◌, ◌<◌, ◌≤◌, inl, inr, List, [], ◌∷◌, ◌++◌}
use Rattle.std.proofs.Common.{length, map, drop, replicate, get_or, not, cond, eqb, false, refl, min}
use Rattle.std.proofs.Common.{sym, ap, ap₂, subst, ◌∙◌, arith, w64, bit_and}
use Rattle.std.proofs.lemmas.Bool.{cases_eq}
use Rattle.std.proofs.lemmas.Bool.Decides.{nat_tests}
use Rattle.std.proofs.lemmas.List.{get_or-map, get_or-drop}
use Rattle.std.proofs.lemmas.Nat.Bits.{bit_at_and, bit_at_lowest, bit_at-suc, bit_at-trailing_zeros, bit_at-zero}
use Rattle.std.proofs.lemmas.Simd.{length-chunk, get_or-chunk, bit_mask_l}
use Rattle.std.specs.Int.{bit_at, trailing_zeros}
use Rattle.std.specs.Simd.Lanes.{chunk, mask_l}
use Rattle.hash_ring.specs.Walks.{AreTaken}

-- a bit that says whether a byte isn't 0
tells : (x : ℕ) → (cond {A = ℕ} (not (eqb x 0)) 1 0 ≡ 1) ↔ (x ≢ 0)
tells x = grind (arith, nat_tests)

-- the mask of sixty-four bytes has one for each
pub taken-mask : (bytes : List ℕ) (base : ℕ) → base + 64 ≤ length bytes
    → AreTaken bytes base (mask_l (map (λ x. not (eqb x 0)) (chunk base 64 bytes)))
taken-mask bytes base h j k =
    let long : j < length (chunk base 64 bytes) = omega (arith, length-chunk base 64 bytes h) in
    let bit : bit_at (mask_l (map (λ x. not (eqb x 0)) (chunk base 64 bytes))) j ≡ cond (not (eqb (get_or bytes (base + j) 0) 0)) 1 0 =
    bit_mask_l (map (λ x. not (eqb x 0)) (chunk base 64 bytes)) j
    ∙ (ap (λ b. cond b 1 0) (get_or-map (λ x. not (eqb x 0)) (chunk base 64 bytes) j 0 false long)
    ∙ ap (λ x. cond (not (eqb x 0)) 1 0) (get_or-chunk base 64 bytes j 0 k)) in
    subst (λ v. (v ≡ 1) ↔ (get_or bytes (base + j) 0 ≢ 0)) (sym bit) (tells (get_or bytes (base + j) 0))

no-more : (n j : ℕ) → get_or {A = ℕ} (replicate n 0) j 0 ≡ 0
no-more zero j = refl
no-more (suc n) zero = refl
no-more (suc n) (suc j) = no-more n j

padded : (xs : List ℕ) (n m j : ℕ) → get_or (xs ++ drop m (replicate n 0)) j 0 ≡ get_or xs j 0
padded [] n m j = get_or-drop m (replicate n 0) j 0 ∙ no-more n (m + j)
padded (x ∷ xs) n m zero = refl
padded (x ∷ xs) n m (suc j) = padded xs n m j

-- zeros after the bytes change nothing
pub taken-padded : (xs : List ℕ) (n m bits : ℕ) → AreTaken (xs ++ drop m (replicate n 0)) 0 bits → AreTaken xs 0 bits
taken-padded xs n m bits taken j k = subst (λ v. (bit_at bits j ≡ 1) ↔ (v ≢ 0)) (padded xs n m (0 + j)) (taken j k)

-- ---- The lowest bit of a word

-- one less than a word has its bits above the lowest one, and not that one
less-one : (low word i : ℕ) → bit_at word low ≡ 1 → ((j : ℕ) → j < low → bit_at word j ≡ 0)
    → (i ≤ low → min (bit_at word i) (bit_at (word - 1) i) ≡ 0) × (low < i → bit_at (word - 1) i ≡ bit_at word i)
less-one zero word zero bit below = (λ h. omega (arith, bit_at_lowest word, bit_at_lowest (word - 1)), λ h. absurd (omega arith))
less-one zero word (suc i) bit below =
    let half : (word - 1) / 2 ≡ word / 2 = omega (arith, bit_at_lowest word) in
    (λ h. absurd (omega arith), λ h. bit_at-suc (word - 1) i ∙ ap (λ w. bit_at w i) half ∙ sym (bit_at-suc word i))
less-one (suc low) word zero bit below = (λ h. omega (arith, below 0 (omega arith)), λ h. absurd (omega arith))
less-one (suc low) word (suc i) bit below =
    let half : (word - 1) / 2 ≡ word / 2 - 1 = omega (arith, bit_at_lowest word, below 0 (omega arith)) in
    let less : bit_at (word - 1) (suc i) ≡ bit_at (word / 2 - 1) i = bit_at-suc (word - 1) i ∙ ap (λ w. bit_at w i) half in
    let rest = less-one low (word / 2) i (sym (bit_at-suc word low) ∙ bit) (λ j l. sym (bit_at-suc word j) ∙ below (suc j) (omega arith)) in
    (λ h. ap₂ min (bit_at-suc word i) less ∙ rest.0 (omega arith), λ h. less ∙ rest.1 (omega arith) ∙ sym (bit_at-suc word i))

-- below its lowest bit a word has none
pub below-lowest : (word : ℕ) → word < 2 ^ 64 → (j : ℕ) → j < trailing_zeros w64 word → bit_at word j ≡ 0
below-lowest word fits j below = elim (cases_eq word 0) [
  | inl none ↦ ap (λ w. bit_at w j) none ∙ bit_at-zero j
  | inr some ↦ (bit_at-trailing_zeros w64 word (omega arith) fits).2 j below
]

-- cleared, it leaves the bits above, and no other
pub cleared : (word : ℕ) → 0 < word → word < 2 ^ 64 → (i : ℕ)
    → (i ≤ trailing_zeros w64 word → bit_at (bit_and word (word - 1)) i ≡ 0)
    × (trailing_zeros w64 word < i → bit_at (bit_and word (word - 1)) i ≡ bit_at word i)
cleared word some fits i =
    let bits = bit_at-trailing_zeros w64 word some fits in
    let less = less-one (trailing_zeros w64 word) word i bits.1 bits.2 in
    (λ h. bit_at_and word (word - 1) i ∙ less.0 h, λ h. omega (arith, bit_at_and word (word - 1) i, less.1 h))
