-- Consecutive bytes, and a range of a list replaced.
use Rattle.std.proofs.Common.{◌≡◌, ℕ, zero, suc, ◌+◌, ◌-◌, ◌<◌, ◌≤◌, ap, sym, refl, ◌∙◌, arith, List, [], false, length, take, drop, get_or, inl, inr, replicate}
use Rattle.std.specs.Prelude.{nat_le, nat_lt, ◌&&◌, slice_index, if◌then◌else◌}
use Rattle.std.proofs.lemmas.Bool.{cases_lt, cases_Bool}
use Rattle.std.proofs.lemmas.Bool.Decides.{nat_tests}
use Rattle.std.proofs.lemmas.Grind.{common_steps, same_number_lists}
use Rattle.arena_rules.specs.Lists.{splice}
use Rattle.arena_store.specs.Memory.{bytes_from, written}

pub length-bytes : (f : ℕ → ℕ) (addr n : ℕ) → length (bytes_from f addr n) ≡ n
unfolding bytes_from
length-bytes f addr zero = refl
length-bytes f addr (suc n) = let rest = length-bytes f (addr + 1) n in omega (arith, rest)

pub byte-bytes : (f : ℕ → ℕ) (addr n i : ℕ) → i < n → slice_index (bytes_from f addr n) i ≡ f (addr + i)
unfolding bytes_from
byte-bytes f addr zero i below = absurd (omega arith)
byte-bytes f addr (suc n) zero below = ap f (omega arith)
byte-bytes f addr (suc n) (suc i) below = byte-bytes f (addr + 1) n i (omega arith) ∙ ap f (omega arith)

pub no_bytes : (f : ℕ → ℕ) (addr n : ℕ) → n ≡ 0 → bytes_from f addr n ≡ []
unfolding bytes_from
no_bytes f addr n none = grind (arith, nat_tests)

-- a part of a list that has the bytes
pub bytes_part : (f : ℕ → ℕ) (list : List ℕ) (addr k n : ℕ) → k + n ≤ length list
    → ((i : ℕ) → i < n → f (addr + i) ≡ slice_index list (k + i))
    → take n (drop k list) ≡ bytes_from f addr n
bytes_part f list addr k n fits same =
    let sized = length-bytes f addr n in
    let part : length (take n (drop k list)) ≡ n = grind (arith, common_steps) in
    same_number_lists (take n (drop k list)) (bytes_from f addr n) (omega arith) (λ i below.
    let inside : i < n = omega arith in
    let at : get_or (take n (drop k list)) i 0 ≡ get_or list (k + i) 0 = grind (arith, common_steps) in
    at ∙ sym (byte-bytes f addr n i inside ∙ same i inside))

pub length-splice : (old new : List ℕ) (k : ℕ) → k + length new ≤ length old → length (splice old k new) ≡ length old
length-splice old new k fits = grind (arith, common_steps)

splice_beside : (old new : List ℕ) (k j : ℕ) → k + length new ≤ length old → (nat_le k j && nat_lt j (k + length new)) ≡ false
    → get_or (splice old k new) j 0 ≡ get_or old j 0
splice_beside old new k j fits beside = elim (cases_lt j k) [
  | inl below ↦ grind (arith, common_steps)
  | inr low ↦ let past : k + length new ≤ j = grind (arith, nat_tests) in grind (arith, common_steps)
]

-- a list with a range replaced, read at an index
pub splice_index : (old new : List ℕ) (k j : ℕ) → k + length new ≤ length old
    → slice_index (splice old k new) j ≡ (if nat_le k j && nat_lt j (k + length new) then slice_index new (j - k) else slice_index old j)
splice_index old new k j fits = elim (cases_Bool (nat_le k j && nat_lt j (k + length new))) [
  | inl inside ↦
      let low : k ≤ j = grind (arith, nat_tests) in
      let high : j < k + length new = grind (arith, nat_tests) in
      let at : get_or (splice old k new) j 0 ≡ get_or new (j - k) 0 = grind (arith, common_steps) in
      rw inside at
  | inr beside ↦ rw beside (splice_beside old new k j fits beside)
]

-- outside the written range the bytes are the same
pub written_beside : (f : ℕ → ℕ) (from a : ℕ) (list : List ℕ) → (nat_le from a && nat_lt a (from + length list)) ≡ false
    → written f from list a ≡ f a
written_beside f from a list beside = rw beside refl

-- writing no bytes changes nothing
pub written_none : (f : ℕ → ℕ) (from a : ℕ) (list : List ℕ) → length list ≡ 0 → written f from list a ≡ f a
written_none f from a list none = written_beside f from a list (grind (arith, nat_tests))

-- a whole place filled
pub filled : (f : ℕ → ℕ) (addr n value a : ℕ)
    → written f addr (replicate (length (bytes_from f addr n)) value) a ≡ written f addr (replicate n value) a
filled f addr n value a = ap (λ (k : ℕ). written f addr (replicate k value) a) (length-bytes f addr n)
