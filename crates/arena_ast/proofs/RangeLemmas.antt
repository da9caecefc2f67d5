-- Ranges of lists that grow at their end.
use Rattle.std.proofs.Common.{◌≡◌, ◌≤◌, ◌-◌, ◌++◌, ℕ, zero, suc, List, length, slice_range, arith, refl, ap, sym, ◌∙◌, take, drop}
use Rattle.std.proofs.lemmas.List.{take-append-le, drop-append-le, take_all, drop_at, length-drop, length-append}

module _ {X : Type 0} (xs ys : List X) (i j : ℕ) (fits : j ≤ length xs) where
  taken : (n : ℕ) → n ≡ j - i → take n (drop i (xs ++ ys)) ≡ take n (drop i xs)
  taken zero is = refl
  taken (suc n) is =
      ap (take (suc n)) (drop-append-le i xs ys (omega (arith, is, fits)))
      ∙ take-append-le (suc n) (drop i xs) ys (omega (arith, is, fits, length-drop i xs))

  pub range_stays : slice_range (xs ++ ys) i j ≡ slice_range xs i j
  range_stays = taken (j - i) refl

-- the range of what was appended
pub range_at : {X : Type 0} (list xs ys : List X) (i j : ℕ) → list ≡ xs ++ ys → i ≡ length xs → j ≡ length list
    → slice_range list i j ≡ ys
range_at list xs ys i j is at end =
    ap (λ zs. take (j - i) (drop i zs)) is
    ∙ ap (take (j - i)) (drop_at xs ys i (sym at))
    ∙ take_all (j - i) ys (omega (arith, at, end, ap length is, length-append xs ys))
