-- Numbers as they are printed.
use Rattle.std.proofs.Common.{◌≡◌, ℕ, ◌+◌, ◌^◌, ◌%◌, ◌<◌, List, [], ◌∷◌, ◌++◌, ap, sym, ◌∙◌, arith, append_assoc}
use Rattle.std.specs.Fmt.{decimal}
use Rattle.std.proofs.lemmas.Fmt.{decimal_digit, decimal_step_wide}
use Rattle.std.proofs.lemmas.List.{append-nil}
use Rattle.line_parts.specs.Numbers.{fields, number}
use Rattle.line_parts.proofs.NumberLemmas.{number_by_steps}

-- a number of more than 64 bits too
number-decimal_wide : (n : ℕ) → n < 10 ^ 64 → number n ≡ decimal n
number-decimal_wide = number_by_steps (λ n ds. n < 10 ^ 64 → ds ≡ decimal n)
    (λ n low h. sym (decimal_digit n low))
    (λ n ds high front h. ap (λ es. es ++ (48 + n % 10) ∷ []) (front (omega arith)) ∙ sym (decimal_step_wide n high h))

-- a space was appended, and then a number's digits
pub field_put_wide : (old mid new text : List ℕ) (n : ℕ) → n < 10 ^ 64 → mid ≡ old ++ 32 ∷ [] → text ≡ decimal n
    → new ≡ mid ++ text → new ≡ old ++ fields (n ∷ [])
field_put_wide old mid new text n h space digits all =
    all ∙ ap (λ xs. xs ++ text) space ∙ append_assoc old (32 ∷ []) text
    ∙ ap (λ xs. old ++ 32 ∷ xs) (digits ∙ sym (append-nil (number n) ∙ number-decimal_wide n h))

pub field_put : (old mid new text : List ℕ) (n : ℕ) → n < 2 ^ 64 → mid ≡ old ++ 32 ∷ [] → text ≡ decimal n
    → new ≡ mid ++ text → new ≡ old ++ fields (n ∷ [])
field_put old mid new text n h space digits all = field_put_wide old mid new text n (omega arith) space digits all
