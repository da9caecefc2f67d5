-- The bytes of a region, before and after a change of its memory.
use Rattle.std.proofs.lemmas.Bool.Decides.{nat_tests}
use Rattle.std.proofs.Common.{◌≡◌, ℕ, zero, suc, ◌+◌, ◌-◌, ◌≤◌, List, [], ◌∷◌, ◌++◌, length, take, drop, replicate, refl, sym, ap, ◌∙◌, arith, length-append, length-take-le, append_assoc}
use Rattle.std.proofs.Math.Seq.{take-length}
use Rattle.std.proofs.lemmas.List.{replicate-append-replicate, length-replicate, length-drop, drop-drop, take-append-drop}
use Rattle.std.proofs.lemmas.Grind.{common_steps}
use Rattle.arena_region.specs.Bytes.{written_from}

-- zeros that are written below the others
pub cleared : (low from : ℕ) (xs : List ℕ) → from ≤ low → replicate from 0 ++ (replicate (low - from) 0 ++ xs) ≡ replicate low 0 ++ xs
cleared low from xs le =
    let all : from + (low - from) ≡ low = omega arith in
    sym (append_assoc (replicate from 0) (replicate (low - from) 0) xs)
    ∙ ap (λ l. l ++ xs) (replicate-append-replicate from (low - from) 0 ∙ ap (λ n. replicate n 0) all)

take_less : (n m : ℕ) (xs : List ℕ) → n ≤ m → take n (take m xs) ≡ take n xs
take_less n m xs le = grind (arith, common_steps)

-- only the first bytes of a list under another one count
refilled : (n : ℕ) (ws xs : List ℕ) → take n (ws ++ drop (length ws) xs) ≡ take n (ws ++ drop (length ws) (take n xs))
refilled n [] xs = sym (take_less n n xs (omega arith))
refilled zero (w ∷ ws) xs = refl
refilled (suc n) (w ∷ ws) [] = refl
refilled (suc n) (w ∷ ws) (x ∷ xs) = ap (λ l. w ∷ l) (refilled n ws xs)

-- what is written in the first n bytes
written_first : (n i : ℕ) (xs ws : List ℕ) → i ≤ n → n ≤ length xs → take n (written_from xs i ws) ≡ written_from (take n xs) i ws
written_first n zero xs ws le fits =
    take_less n (length xs) (ws ++ drop (length ws) xs) fits ∙ refilled n ws xs
    ∙ ap (λ k. take k (ws ++ drop (length ws) (take n xs))) (sym (length-take-le n xs fits))
written_first zero (suc i) xs ws le fits = absurd (omega arith)
written_first (suc n) (suc i) [] ws le fits = absurd (omega arith)
written_first (suc n) (suc i) (x ∷ xs) ws le fits = ap (λ l. x ∷ l) (written_first n i xs ws (omega arith) (omega arith))

-- what is written above zeros
written_behind : (low k from : ℕ) (xs ws : List ℕ) → from ≡ low + k
    → replicate low 0 ++ written_from xs k ws ≡ written_from (replicate low 0 ++ xs) from ws
written_behind zero k from xs ws e = let same : k ≡ from = omega arith in ap (λ i. written_from xs i ws) same
written_behind (suc low) k zero xs ws e = absurd (omega arith)
written_behind (suc low) k (suc from) xs ws e = ap (λ l. 0 ∷ l) (written_behind low k from xs ws (omega arith))

-- a region's final value, with what was written
pub written_shown : (low n from : ℕ) (xs ws : List ℕ) → low ≤ from → from ≤ n → n ≤ low + length xs
    → take n (replicate low 0 ++ written_from xs (from - low) ws) ≡ written_from (take n (replicate low 0 ++ xs)) from ws
written_shown low n from xs ws above within fits =
    grind (arith, nat_tests, written_behind, written_first, length-append, length-replicate)

behind : (low k from : ℕ) (xs : List ℕ) → from ≡ low + k → drop from (replicate low 0 ++ xs) ≡ drop k xs
behind zero k from xs e = let same : from ≡ k = omega arith in ap (λ i. drop i xs) same
behind (suc low) k zero xs e = absurd (omega arith)
behind (suc low) k (suc from) xs e = behind low k from xs (omega arith)

within_first : (n i size : ℕ) (xs : List ℕ) → i + size ≤ n → take size (drop i (take n xs)) ≡ take size (drop i xs)
within_first n zero size xs le = take_less size n xs (omega arith)
within_first zero (suc i) size xs le = absurd (omega arith)
within_first (suc n) (suc i) size [] le = refl
within_first (suc n) (suc i) size (x ∷ xs) le = within_first n i size xs (omega arith)

-- a part of the ready bytes is that part of the region
pub part_shown : (low n from size : ℕ) (xs : List ℕ) → low ≤ from → from + size ≤ n
    → take size (drop (from - low) xs) ≡ take size (drop from (take n (replicate low 0 ++ xs)))
part_shown low n from size xs above le = grind (arith, nat_tests, within_first, behind)

-- a list written in front of what was written before is one list with it
pub written_joined : (i k : ℕ) (xs us ws : List ℕ) → k ≡ i + length us → k + length ws ≤ length xs
    → written_from (written_from xs k ws) i us ≡ written_from xs i (us ++ ws)
written_joined zero zero xs [] ws e fits = take-length (written_from xs 0 ws)
written_joined zero (suc k) xs [] ws e fits = absurd (omega arith)
written_joined zero zero xs (u ∷ us) ws e fits = absurd (omega arith)
written_joined zero (suc k) [] (u ∷ us) ws e fits = absurd (omega arith)
written_joined zero (suc k) (x ∷ xs) (u ∷ us) ws e fits = ap (λ l. u ∷ l) (written_joined zero k xs us ws (omega arith) (omega arith))
written_joined (suc i) zero xs us ws e fits = absurd (omega arith)
written_joined (suc i) (suc k) [] us ws e fits = absurd (omega arith)
written_joined (suc i) (suc k) (x ∷ xs) us ws e fits = ap (λ l. x ∷ l) (written_joined i k xs us ws (omega arith) (omega arith))

-- the same for the parts of a list that are written from its end on
pub written_part : (from start end : ℕ) (xs ws : List ℕ) → start ≤ end → end ≤ length ws → from + length ws ≤ length xs
    → written_from (written_from xs (from + end) (drop end ws)) (from + start) (take (end - start) (drop start ws)) ≡ written_from xs
    (from + start) (drop start ws)
written_part from start end xs ws below within fits =
    let rest = length-drop start ws in
    let first = length-take-le (end - start) (drop start ws) (omega (arith, rest)) in
    let last : drop end ws ≡ drop (end - start) (drop start ws) = ap (λ n. drop n ws) (omega arith) ∙ sym (drop-drop (end - start) start ws)
    in
    written_joined (from + start) (from + end) xs (take (end - start) (drop start ws)) (drop end ws) (omega (arith, first))
    (omega (arith, length-drop end ws))
    ∙ ap (written_from xs (from + start)) (ap (λ l. take (end - start) (drop start ws) ++ l) last
    ∙ take-append-drop (end - start) (drop start ws))
