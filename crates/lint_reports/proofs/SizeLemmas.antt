-- How many sources an input has, and how long they are.
use Rattle.std.proofs.lemmas.Bool.Decides.{nat_tests}
use Rattle.std.proofs.Common.{◌≡◌, ℕ, ◌+◌, ◌≤◌, Bool, true, false, List, [], ◌∷◌, length, map, refl, subst, arith}
use Rattle.std.specs.List.{AllByRecursion, slice_split, onto_first}
use Rattle.std.proofs.lemmas.List.{length-append, length-map}
use Rattle.std.proofs.lemmas.List.Sums.{count_by-le-length}
use Rattle.std.proofs.lemmas.List.Splits.{length-slice_split}
use Rattle.lint_reports.specs.Sources.{fed_lines, is_mark, joined, sources, onto}
use Rattle.lint_reports.proofs.SourceLemmas.{marked, unmarked}

-- ---- Lines

few_onto : (b : ℕ) (lines : List (List ℕ)) → length (onto_first b lines) ≤ length lines + 1
few_onto b lines = grind (arith, nat_tests)

few_lines : (bytes : List ℕ) → length (fed_lines bytes) ≤ length bytes
few_lines [] = omega arith
few_lines (b ∷ bytes) = grind (arith, few_lines bytes, few_onto b (fed_lines bytes))

joined_onto : (b : ℕ) (lines : List (List ℕ)) → joined (onto_first b lines) ≡ b ∷ joined lines
joined_onto b lines = grind (arith, nat_tests)

joined_lines : (bytes : List ℕ) → joined (fed_lines bytes) ≡ bytes
joined_lines [] = refl
joined_lines (b ∷ bytes) = grind (arith, joined_lines bytes, joined_onto b (fed_lines bytes))

-- ---- Sources

pub few : (bytes : List ℕ) → length (sources bytes) ≤ length bytes + 1
few bytes = grind (arith, nat_tests, length-map, length-slice_split, count_by-le-length, few_lines)

abbrev AreShort : ℕ → List (List ℕ) → Type 0
AreShort most = AllByRecursion (λ source. length source ≤ most)

still : (few many : ℕ) (xs : List (List ℕ)) → few ≤ many → AreShort few xs → AreShort many xs
still few many [] less are = tt
still few many (x ∷ xs) less are = (omega (arith, less, are.0), still few many xs less are.1)

short_onto : (line : List ℕ) (most : ℕ) (xs : List (List ℕ)) → AreShort most xs → AreShort (length line + most) (onto line xs)
short_onto line most xs are = grind (arith, nat_tests, length-append, still)

short_parts : (lines : List (List ℕ)) → AreShort (length (joined lines)) (map joined (slice_split is_mark lines))
short_parts [] = (omega arith, tt)
short_parts (line ∷ lines) = step (is_mark line) refl (short_parts lines)
  where
    all : length (joined (line ∷ lines)) ≡ length line + length (joined lines)
    all = length-append line (joined lines)

    step : (t : Bool) → is_mark line ≡ t → AreShort (length (joined lines)) (map joined (slice_split is_mark lines))
        → AreShort (length (joined (line ∷ lines))) (map joined (slice_split is_mark (line ∷ lines)))
    step true is are = rw (marked line lines is)
        (omega arith, still (length (joined lines)) (length (joined (line ∷ lines))) _ (omega (arith, all)) are)
    step false is are = rw (unmarked line lines is, all) (short_onto line (length (joined lines)) _ are)

pub short : (bytes : List ℕ) → AreShort (length bytes) (sources bytes)
short bytes = subst (λ xs. AreShort (length xs) (sources bytes)) (joined_lines bytes) (short_parts (fed_lines bytes))
