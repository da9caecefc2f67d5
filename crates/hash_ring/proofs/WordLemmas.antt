-- Contents compared by words.
use Rattle.std.proofs.Common.{◌≡◌, ◌↔◌, ◌+◌, ◌-◌, ◌*◌, ◌<◌, ◌≤◌, ◌++◌, ℕ, zero, suc, List, [], ◌∷◌, length, take, drop, get_or, sym, ap, ap₂, ◌∙◌}
use Rattle.std.proofs.Common.{IsTrue, arith, nat_eq}
use Rattle.std.proofs.lemmas.Bool.Decides.{nat_tests}
use Rattle.std.proofs.lemmas.List.{drop-drop, take-append-drop, take_rest, get_or-drop, length-take-le, length-drop}
use Rattle.std.proofs.lemmas.Nat.{le_bytes_4, le_bytes_8}

-- two lists of equal length, at most 2 * k, are equal if their first k and their last k are
overlap : (xs ys : List ℕ) (k : ℕ) → length xs ≡ length ys → k ≤ length xs → length xs ≤ 2 * k → take k xs ≡ take k ys
    → drop (length xs - k) xs ≡ drop (length xs - k) ys → xs ≡ ys
overlap xs ys k e least most first last =
    let n : ℕ = length xs in
    let sum : k ≡ (n - k) + (2 * k - n) = omega arith in
    let behind : (zs : List ℕ) → drop k zs ≡ drop (2 * k - n) (drop (n - k) zs) =
    λ zs. ap (λ m. drop m zs) sum ∙ sym (drop-drop (2 * k - n) (n - k) zs) in
    let rest : drop k xs ≡ drop k ys = behind xs ∙ ap (drop (2 * k - n)) last ∙ sym (behind ys) in
    sym (take-append-drop k xs) ∙ ap₂ (λ a b. a ++ b) first rest ∙ take-append-drop k ys

-- parts of bytes are bytes
abbrev AreBytes : List ℕ → Type 0
AreBytes xs = (i : ℕ) → get_or xs i 0 < 256

bytes-take : (xs : List ℕ) (k : ℕ) → AreBytes xs → AreBytes (take k xs)
bytes-take xs zero small i = omega arith
bytes-take [] (suc k) small i = small i
bytes-take (x ∷ xs) (suc k) small zero = small 0
bytes-take (x ∷ xs) (suc k) small (suc i) = bytes-take xs k (λ j. small (suc j)) i

-- Bytes of k to 2 * k are equal if the words of k bytes at their starts and at their ends are.
pub same-ends : (k : ℕ) (word : List ℕ → ℕ) (bytes : ℕ → List ℕ)
    → ((xs : List ℕ) (n : ℕ) → length xs ≡ k → AreBytes xs → n ≡ word xs → bytes n ≡ xs)
    → (xs ys : List ℕ) (a b c d : ℕ) → length xs ≡ length ys → k ≤ length xs → length xs ≤ 2 * k → AreBytes xs → AreBytes ys
    → a ≡ word (take k xs) → b ≡ word (take k ys) → a ≡ b
    → c ≡ word (take (length xs - (length xs - k)) (drop (length xs - k) xs))
    → d ≡ word (take (length ys - (length xs - k)) (drop (length xs - k) ys)) → IsTrue (nat_eq c d) ↔ (xs ≡ ys)
same-ends k word bytes back xs ys a b c d e least most small other a_is b_is ab c_is d_is =
    let last : ℕ = length xs - k in
    let c_is' : c ≡ word (drop last xs) = c_is ∙ ap word (take_rest xs last) in
    let d_is' : d ≡ word (drop last ys) = d_is ∙ ap word (take_rest ys last) in
    let first : take k xs ≡ take k ys =
    sym (back (take k xs) a (length-take-le k xs least) (bytes-take xs k small) a_is) ∙ ap bytes ab
    ∙ back (take k ys) b (length-take-le k ys (omega arith)) (bytes-take ys k other) b_is in
    let ends : c ≡ d → drop last xs ≡ drop last ys = λ cd.
    sym (back (drop last xs) c (omega (arith, length-drop last xs)) (λ i. rw (get_or-drop last xs i 0) (small (last + i))) c_is') ∙ ap bytes cd
    ∙ back (drop last ys) d (omega (arith, length-drop last ys)) (λ i. rw (get_or-drop last ys i 0) (other (last + i))) d_is' in (
      λ t. overlap xs ys k e least most first (ends (grind (arith, nat_tests))),
      λ h. let same : c ≡ d = c_is' ∙ ap (λ zs. word (drop last zs)) h ∙ sym d_is' in grind (arith, nat_tests),
    )

-- for automatic proof
pub ruleset word_laws = (le_bytes_4, le_bytes_8)
