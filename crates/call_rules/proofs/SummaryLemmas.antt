-- The lines of a summary determine its numbers.
use Rattle.std.proofs.Common.{◌≡◌, ℕ, List, [], ◌∷◌, ◌++◌, drop, refl, sym, ap, ◌∙◌, append_assoc, codes}
use Rattle.std.proofs.lemmas.List.{append_cancel_left}
use Rattle.line_parts.specs.Numbers.{fields}
use Rattle.call_rules.specs.Summary.{Summary, number_line, summary_text}
use Rattle.line_parts.proofs.FieldLemmas.{read_field, read_field_back}

line_split : (word : List ℕ) (n : ℕ) (rest : List ℕ) → number_line (word, n) ++ rest ≡ word ++ (fields (n ∷ []) ++ 10 ∷ rest)
line_split word n rest = append_assoc word (fields (n ∷ []) ++ 10 ∷ []) rest
    ∙ ap (λ xs. word ++ xs) (append_assoc (fields (n ∷ [])) (10 ∷ []) rest)

read_line : (word : List ℕ) (m n : ℕ) (more rest : List ℕ) → number_line (word, m) ++ more ≡ number_line (word, n) ++ rest
    → (m ≡ n) × (more ≡ rest)
read_line word m n more rest e =
    let same : ◌≡◌ {A = ℕ × List ℕ} (m, 10 ∷ more) (n, 10 ∷ rest)
    = sym (read_field_back (λ (k : ℕ). k) m (10 ∷ more) refl)
    ∙ ap (read_field (λ (k : ℕ). k)) (append_cancel_left word (fields (m ∷ []) ++ 10 ∷ more) (fields (n ∷ []) ++ 10 ∷ rest)
    (sym (line_split word m more) ∙ e ∙ line_split word n rest))
    ∙ read_field_back (λ (k : ℕ). k) n (10 ∷ rest) refl in
    (ap (λ (p : ℕ × List ℕ). p.0) same, ap (λ (p : ℕ × List ℕ). drop 1 p.1) same)

abbrev eight : ℕ → ℕ → ℕ → ℕ → ℕ → ℕ → ℕ → ℕ → Summary
eight c p f o n s u l = record { calls = c; placed = p; failed = f; other = o; bytes = n; byte_sum = s; used = u; allocated = l }

pub same_summary : (a b : Summary) → summary_text a ≡ summary_text b → a ≡ b
same_summary a b e =
    let calls = read_line (codes "calls") a.calls b.calls _ _ e in
    let placed = read_line (codes "placed") a.placed b.placed _ _ calls.1 in
    let failed = read_line (codes "failed") a.failed b.failed _ _ placed.1 in
    let other = read_line (codes "other") a.other b.other _ _ failed.1 in
    let bytes = read_line (codes "bytes") a.bytes b.bytes _ _ other.1 in
    let byte_sum = read_line (codes "sum") a.byte_sum b.byte_sum _ _ bytes.1 in
    let used = read_line (codes "used") a.used b.used _ _ byte_sum.1 in
    let allocated = read_line (codes "allocated") a.allocated b.allocated [] [] used.1 in
    λ i. eight (calls.0 i) (placed.0 i) (failed.0 i) (other.0 i) (bytes.0 i) (byte_sum.0 i) (used.0 i) (allocated.0 i)
