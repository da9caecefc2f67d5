-- One more request, and what the limits make of it.
use Rattle.std.proofs.Common.{◌≡◌, ℕ, ◌+◌, ◌-◌, ◌^◌, ◌<◌, ◌≤◌, ◌⊎◌, inl, inr, Bool, true, false, refl, sym, ◌∙◌, arith, IsTrue, List, [], ◌∷◌, ◌++◌, length, take, take_all, eqb-true, eq-eqb}
use Rattle.std.specs.Prelude.{◌||◌, ◌==◌, not, if◌then◌else◌}
use Rattle.std.proofs.lemmas.List.{length-append, take-append-le}
use Rattle.arena_rules.specs.Causes.{counted}
use Rattle.arena_oracle.specs.Limits.{is_allowed, left_behind, one_refusal, left_of, refusals_of}

-- the requests from the n-th on, and the k-th behind them
left_at : (refuse : List ℕ) (n left k : ℕ) (requests : List (ℕ × ℕ)) (r : ℕ × ℕ) → k ≡ n + length requests
    → left_of refuse n left (requests ++ r ∷ []) ≡ left_behind refuse k (left_of refuse n left requests) r.0
left_at refuse n left k [] r at =
    let same : k ≡ n = omega (arith, at) in
    rw same refl
left_at refuse n left k (x ∷ rest) r at = left_at refuse (n + 1) (left_behind refuse n left x.0) k rest r (omega (arith, at))

refusals_at : (refuse : List ℕ) (n left k : ℕ) (requests : List (ℕ × ℕ)) (r : ℕ × ℕ) → k ≡ n + length requests
    → refusals_of refuse n left (requests ++ r ∷ []) ≡ refusals_of refuse n left requests + one_refusal refuse k (left_of refuse n left requests) r.0
refusals_at refuse n left k [] r at =
    let same : k ≡ n = omega (arith, at) in
    rw same (omega arith)
refusals_at refuse n left k (x ∷ rest) r at =
    let more = refusals_at refuse (n + 1) (left_behind refuse n left x.0) k rest r (omega (arith, at)) in
    omega (arith, more)

one_most : (b : Bool) → (if b then 0 else 1) ≤ 1
one_most true = omega arith
one_most false = omega arith

pub refusals_most : (refuse : List ℕ) (n left : ℕ) (requests : List (ℕ × ℕ)) → refusals_of refuse n left requests ≤ length requests
refusals_most refuse n left [] = omega arith
refusals_most refuse n left (x ∷ rest) =
    let one = one_most (is_allowed refuse n left x.0) in
    let more = refusals_most refuse (n + 1) (left_behind refuse n left x.0) rest in
    omega (arith, one, more)

-- a list that grew
pub pushed : (ok : Bool) (old more new : List (ℕ × ℕ)) → ok ≡ true → new ≡ (if ok then more else old) → new ≡ more
pushed true old more new is put = put
pushed false old more new is put = cc

-- what follows from two numbers that are the same, unless e
by_use : (e : Bool) {m n : ℕ} {b : Bool} → IsTrue (e || m == n) → (m ≡ n → IsTrue b) → IsTrue (e || b)
by_use true same go = refl
by_use false same go = go (eqb-true _ _ same)

by_uses : (e : Bool) {m n k j : ℕ} {b : Bool} → IsTrue (e || m == n) → IsTrue (e || k == j) → (m ≡ n → k ≡ j → IsTrue b) → IsTrue (e || b)
by_uses true same also go = refl
by_uses false same also go = go (eqb-true _ _ same) (eqb-true _ _ also)

-- all but the last
but_last : (xs : List (ℕ × ℕ)) (r : ℕ × ℕ) → take (length (xs ++ r ∷ []) - 1) (xs ++ r ∷ []) ≡ xs
but_last xs r =
    let most : length (xs ++ r ∷ []) - 1 ≡ length xs = omega (arith, length-append xs (r ∷ [])) in
    rw most (take-append-le (length xs) xs (r ∷ []) (omega arith) ∙ take_all (length xs) xs (omega arith))

-- Up to the last request but one that was granted, if it is the last one, the limits refuse as many as of all.
pub refused_behind : (e granted : Bool) (refuse : List ℕ) (budget refused most : ℕ) (requests : List (ℕ × ℕ)) → e ≡ false
    → IsTrue (e || refused == refusals_of refuse 1 budget requests)
    → IsTrue (not granted || e || refused == refusals_of refuse 1 budget (take (length requests - 1) requests))
    → (length requests ≡ most) ⊎ (IsTrue granted × (length requests ≡ most + 1)) → refused ≡ refusals_of refuse 1 budget (take most requests)
refused_behind e granted refuse budget refused most requests known counts last (inl is) =
    rw (take_all most requests (omega (arith, is))) (eqb-true _ _ (rw known at counts))
refused_behind e granted refuse budget refused most requests known counts last (inr is) =
    let but : length requests - 1 ≡ most = omega (arith, is.1) in
    eqb-true _ _ (rw (is.0, known, but) at last)

-- So are the facts of a source kept, unless memory has run out.
module _ (e : Bool) (refuse : List ℕ) (budget left refused size align : ℕ) (requests new : List (ℕ × ℕ))
    (put : new ≡ requests ++ (size, align) ∷ []) (remains : IsTrue (e || left == left_of refuse 1 budget requests)) where
  pub remains_more : (allowed : Bool) → is_allowed refuse (length requests + 1) left size ≡ allowed
      → IsTrue (e || (if allowed then left - size else left) == left_of refuse 1 budget new)
  remains_more allowed so = by_use e remains (λ is.
      let more = left_at refuse 1 budget (length requests + 1) requests (size, align) (omega arith) in
      rw put (eq-eqb _ _ (sym (rw (← is, so) at more))))

  pub counts_allowed : IsTrue (e || refused == refusals_of refuse 1 budget requests) → is_allowed refuse (length requests + 1) left size ≡ true
      → IsTrue (e || refused == refusals_of refuse 1 budget new)
  counts_allowed counts so = by_uses e remains counts (λ is same.
      let more = rw (← is, so) at (refusals_at refuse 1 budget (length requests + 1) requests (size, align) (omega arith)) in
      rw put (eq-eqb _ _ (omega (arith, same, more))))

  pub counts_refused : (risen : ℕ) → risen ≡ counted refused 1 → length requests < 2 ^ 63
      → IsTrue (e || refused == refusals_of refuse 1 budget requests) → is_allowed refuse (length requests + 1) left size ≡ false
      → IsTrue (e || risen == refusals_of refuse 1 budget new)
  counts_refused risen rises few counts so = by_uses e remains counts (λ is same.
      let more = rw (← is, so) at (refusals_at refuse 1 budget (length requests + 1) requests (size, align) (omega arith)) in
      let most = refusals_most refuse 1 budget requests in
      rw put (eq-eqb _ _ (omega (arith, rises, more, same, most, few))))

  pub last_allowed : (granted : Bool) → IsTrue (e || refused == refusals_of refuse 1 budget requests)
      → IsTrue (not granted || e || refused == refusals_of refuse 1 budget (take (length new - 1) new))
  last_allowed true counts = rw (put, but_last requests (size, align)) counts
  last_allowed false counts = refl
