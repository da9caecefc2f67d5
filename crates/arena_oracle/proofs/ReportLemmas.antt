-- The limits that a report begins with.
use Rattle.std.proofs.Common.{◌≡◌, ℕ, refl, ap, arith, List, [], ◌∷◌, ◌++◌, length, map}
use Rattle.arena_oracle.specs.Limits.{entry_of, given}

entries_same : (one other : List ℕ) (xs ys : List (ℕ × ℕ)) → length one ≡ length other
    → map entry_of one ++ xs ≡ map entry_of other ++ ys → (one ≡ other) × (xs ≡ ys)
entries_same [] [] xs ys long same = (refl, same)
entries_same [] (m ∷ other) xs ys long same = absurd (omega (arith, long))
entries_same (n ∷ one) [] xs ys long same = absurd (omega (arith, long))
entries_same (n ∷ one) (m ∷ other) xs ys long same =
    let rest = entries_same one other xs ys (omega (arith, long)) cc in
    let here : entry_of n ≡ entry_of m = cc in
    (rw (ap (λ (r : ℕ × ℕ). r.0) here, rest.0) refl, rest.1)

-- Two reports that are the same have the same limits and the same requests behind them.
pub given_same : (b budget : ℕ) (r refuse : List ℕ) (xs ys : List (ℕ × ℕ)) → given b r ++ xs ≡ given budget refuse ++ ys
    → (b ≡ budget) × (r ≡ refuse) × (xs ≡ ys)
given_same b budget r refuse xs ys same =
    let here : ◌≡◌ {A = ℕ × ℕ} (b, length r) (budget, length refuse) = cc in
    let rest = entries_same r refuse xs ys (ap (λ (x : ℕ × ℕ). x.1) here) cc in
    (ap (λ (x : ℕ × ℕ). x.0) here, rest.0, rest.1)
