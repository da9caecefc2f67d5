-- The words of the program, one after another.
use Rattle.std.proofs.Common.{◌≡◌, ◌≢◌, ℕ, ◌%◌, ◌<◌, ◌≤◌, List, [], ◌∷◌, Some, None, get_or, refl, sym, ap, ◌∙◌, arith, codes}
use Rattle.std.proofs.lemmas.Option.{some_pair_parts}
use Rattle.line_parts.specs.Numbers.{number}
use Rattle.line_parts.proofs.ReadingLemmas.{number_same}
use Rattle.arena_pool.specs.Kinds.{HasLimit, HasRegions}
use Rattle.arena_program.specs.PoolEnds.{kind_of, limit_of}
use Rattle.arena_program.specs.Words.{IsWithin, ReadsFirst, IsLender, lender_words}
use Rattle.arena_program.specs.declared.tasks.Lender.{Lender}
use Rattle.arena_program.specs.declared.tasks.Lender.TheVariants.{Standard, Keeping, Fixed}

first_word : (words : List (List ℕ)) (w v : List ℕ) (rest more : List (List ℕ)) → words ≡ w ∷ rest → words ≡ v ∷ more → w ≡ v
first_word words w v rest more a b = cc

behind_first : (words : List (List ℕ)) (w v : List ℕ) (rest more : List (List ℕ)) → words ≡ w ∷ rest → words ≡ v ∷ more → rest ≡ more
behind_first words w v rest more a b = cc

pub number_low : (least most : ℕ) (words : List (List ℕ)) (w : List ℕ) (rest : List (List ℕ)) (n : ℕ) → words ≡ w ∷ rest → w ≡ number n
    → n < least → ReadsFirst least most words None
number_low least most words w rest n front is low = record {
  found = tt;
  only = λ m r within e.
      let same : n ≡ m = number_same n m (sym is ∙ first_word words w (number m) rest r front e) in
      let high = within.low in
      absurd (omega arith);
}

pub number_here : (least most : ℕ) (words : List (List ℕ)) (w : List ℕ) (rest : List (List ℕ)) (n : ℕ) → words ≡ w ∷ rest → w ≡ number n
    → least ≤ n → n ≤ most → ReadsFirst least most words (Some (n, rest))
number_here least most words w rest n front is low high = record {
  found = (record { low = low; high = high }, front ∙ ap (λ x. x ∷ rest) is);
  only = λ m r within e.
      let same : n ≡ m = number_same n m (sym is ∙ first_word words w (number m) rest r front e) in
      let behind : rest ≡ r = behind_first words w (number m) rest r front e in
      cc;
}

-- what follows the word `fixed` in a lender's words
fixed_words : (words rest : List (List ℕ)) → words ≡ codes "fixed" ∷ rest → (l : Lender) → IsLender l → words ≡ lender_words l
    → (bytes : ℕ) × (arenas : ℕ) × (IsWithin 48 16777216 bytes × (bytes % 16 ≡ 0) × IsWithin 1 64 arenas)
    × (rest ≡ number bytes ∷ number arenas ∷ [])
fixed_words words rest front Standard is e = absurd (none (sym front ∙ e))
  where
    none : codes "fixed" ∷ rest ≡ [] → ⊥
    none e = cc
fixed_words words rest front (Keeping limit) is e =
    let same = first_word words (codes "fixed") (codes "keep") rest (number limit ∷ []) front e in
    let letter : ◌≡◌ {A = ℕ} 102 107 = ap (λ xs. get_or xs 0 0) same in
    absurd (omega arith)
fixed_words words rest front (Fixed bytes arenas) is e =
    (bytes, arenas, is, behind_first words (codes "fixed") (codes "fixed") rest (number bytes ∷ number arenas ∷ []) front e)

pub no_arenas : (words rest behind : List (List ℕ)) (bytes : ℕ) → words ≡ codes "fixed" ∷ rest
    → ReadsFirst 48 16777216 rest (Some (bytes, behind)) → ReadsFirst 1 64 behind None
    → (l : Lender) → IsLender l → words ≢ lender_words l
no_arenas words rest behind bytes front first second l is e =
    let f = fixed_words words rest front l is e in
    let same = (some_pair_parts bytes f.0 behind (number f.1 ∷ []) (first.only f.0 (number f.1 ∷ []) f.2.0 f.3)).1 in
    let none = second.only f.1 [] f.2.2 same in
    cc

pub odd_bytes : (words rest behind : List (List ℕ)) (bytes : ℕ) → words ≡ codes "fixed" ∷ rest
    → ReadsFirst 48 16777216 rest (Some (bytes, behind)) → bytes % 16 ≢ 0
    → (l : Lender) → IsLender l → words ≢ lender_words l
odd_bytes words rest behind bytes front first odd l is e =
    let f = fixed_words words rest front l is e in
    let same = (some_pair_parts bytes f.0 behind (number f.1 ∷ []) (first.only f.0 (number f.1 ∷ []) f.2.0 f.3)).0 in
    odd (ap (λ n. n % 16) same ∙ f.2.1)

-- ---- The pool that the words name can be made

pub has_regions : (lender : Lender) → IsLender lender → HasRegions (kind_of lender)
has_regions Standard is = tt
has_regions (Keeping limit) is = tt
has_regions (Fixed bytes arenas) is = (is.1, is.0.low)

pub has_limit : (lender : Lender) → HasLimit (kind_of lender) (limit_of lender)
has_limit Standard = tt
has_limit (Keeping limit) = tt
has_limit (Fixed bytes arenas) = refl
