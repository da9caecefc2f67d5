-- An input that is cut line by line.
use Rattle.std.proofs.Common.{◌≡◌, ◌≢◌, ℕ, zero, suc, ◌+◌, ◌<◌, ◌≤◌, Bool, true, false, List, [], ◌∷◌, ◌++◌, length, map, take, drop, refl, sym, ap, ◌∙◌, arith, append_assoc, add-one, take-add, drop-drop}
use Rattle.std.specs.Prelude.{◌==◌, if◌then◌else◌, All}
use Rattle.std.specs.List.{slice_split, onto_first, slice_index}
use Rattle.std.proofs.Math.Seq.{take-append-add, drop-append-add, drop-length, take-append_seam, drop-append_seam}
use Rattle.std.proofs.lemmas.Bool.Decides.{nat_tests}
use Rattle.std.proofs.lemmas.List.{append-nil, length-append, length-drop, length-take-le, take-append-drop}
use Rattle.std.proofs.lemmas.List.Elements.{All-head, All-tail}
use Rattle.std.proofs.lemmas.List.Splits.{slice_split-cons_yes, slice_split-cons_no, length-slice_split}
use Rattle.lint_reports.specs.Sources.{fed_lines, is_mark, joined, sources, onto, IsFirstLine, IsPassed}

-- ---- The first line

abbrev other : ℕ → Type 0
other b = b ≢ 10

fed : (b : ℕ) (bytes : List ℕ) → b ≡ 10 → fed_lines (b ∷ bytes) ≡ (b ∷ []) ∷ fed_lines bytes
fed b bytes is = grind (arith, nat_tests)

unfed : (b : ℕ) (bytes : List ℕ) → b ≢ 10 → fed_lines (b ∷ bytes) ≡ onto_first b (fed_lines bytes)
unfed b bytes differs = grind (arith, nat_tests)

fed_at : (bytes : List ℕ) (n : ℕ) → n < length bytes → All other (take n bytes) → slice_index bytes n ≡ 10
    → fed_lines bytes ≡ take (suc n) bytes ∷ fed_lines (drop (suc n) bytes)
fed_at [] n h before is = absurd (omega arith)
fed_at (b ∷ bytes) zero h before is = fed b bytes is
fed_at (b ∷ bytes) (suc n) h before is = unfed b bytes (All-head other b (take n bytes) before)
    ∙ ap (onto_first b) (fed_at bytes n (omega arith) (All-tail other b (take n bytes) before) is)

unfed_all : (bytes : List ℕ) → All other bytes → bytes ≢ [] → fed_lines bytes ≡ bytes ∷ []
unfed_all [] before some = absurd (some refl)
unfed_all (b ∷ []) before some = unfed b [] (All-head other b [] before)
unfed_all (b ∷ (c ∷ bytes)) before some = unfed b (c ∷ bytes) (All-head other b (c ∷ bytes) before)
    ∙ ap (onto_first b) (unfed_all (c ∷ bytes) (All-tail other b (c ∷ bytes) before) (λ e. cc))

some_taken : (bytes : List ℕ) (n : ℕ) → n < length bytes → take (suc n) bytes ≡ [] → bytes ≡ []
some_taken bytes n h none = grind (arith, nat_tests)

pub first_fed : (bytes : List ℕ) (n : ℕ) → n < length bytes → All other (take n bytes) → slice_index bytes n ≡ 10
    → IsFirstLine bytes (take (n + 1) bytes)
first_fed bytes n h before is = rw (add-one n) (record {
  behind = drop (suc n) bytes;
  all = sym (take-append-drop (suc n) bytes);
  none = some_taken bytes n h;
  first = λ some. fed_at bytes n h before is;
})

pub first_unfed : (bytes : List ℕ) → All other bytes → IsFirstLine bytes bytes
first_unfed bytes before = grind (arith, nat_tests, append-nil, unfed_all)

-- ---- Sources

-- the sources of lines
abbrev parts : List (List ℕ) → List (List ℕ)
parts lines = map joined (slice_split is_mark lines)

onto_joined : (line : List ℕ) (groups : List (List (List ℕ))) → 0 < length groups
    → map joined (onto_first line groups) ≡ onto line (map joined groups)
onto_joined line groups some = grind (arith, nat_tests)

onto_none : (xs : List (List ℕ)) → onto [] xs ≡ xs
onto_none xs = grind (arith, nat_tests)

onto_both : (a b : List ℕ) (xs : List (List ℕ)) → onto a (onto b xs) ≡ onto (a ++ b) xs
onto_both a b xs = grind (arith, nat_tests, append_assoc)

pub marked : (line : List ℕ) (lines : List (List ℕ)) → is_mark line ≡ true → parts (line ∷ lines) ≡ [] ∷ parts lines
marked line lines is = ap (map joined) (slice_split-cons_yes is_mark line lines is)

pub unmarked : (line : List ℕ) (lines : List (List ℕ)) → is_mark line ≡ false → parts (line ∷ lines) ≡ onto line (parts lines)
unmarked line lines is = grind (arith, nat_tests, slice_split-cons_no, onto_joined, length-slice_split)

-- ---- Lines that have no percent sign

abbrev BeginUnmarked : List (List ℕ) → Type 0
BeginUnmarked [] = Unit {0}
BeginUnmarked (line ∷ lines) = is_mark line ≡ false

no_mark : (b : ℕ) (line : List ℕ) → b ≢ 37 → is_mark (b ∷ line) ≡ false
no_mark b line other = grind (arith, nat_tests)

begin_unmarked : (b : ℕ) (bytes : List ℕ) → b ≢ 37 → BeginUnmarked (fed_lines (b ∷ bytes))
begin_unmarked b bytes other = by (b == 10) (fed_lines bytes)
  where
    by : (t : Bool) (lines : List (List ℕ)) → BeginUnmarked (if t then (b ∷ []) ∷ lines else onto_first b lines)
    by true lines = no_mark b [] other
    by false [] = no_mark b [] other
    by false (line ∷ lines) = no_mark b line other

-- a byte before lines that don't begin with a mark
onto_unmarked : (b : ℕ) (lines : List (List ℕ)) → b ≢ 37 → BeginUnmarked lines
    → parts (onto_first b lines) ≡ onto (b ∷ []) (parts lines)
onto_unmarked b lines other is = grind (arith, nat_tests, no_mark, onto_both)

one_on : (b : ℕ) (bytes : List ℕ) → b ≢ 37 → (b ≢ 10 → BeginUnmarked (fed_lines bytes))
    → sources (b ∷ bytes) ≡ onto (b ∷ []) (sources bytes)
one_on b bytes other is = by (b == 10) refl
  where
    by : (t : Bool) → (b == 10) ≡ t → parts (if t then (b ∷ []) ∷ fed_lines bytes else onto_first b (fed_lines bytes))
        ≡ onto (b ∷ []) (sources bytes)
    by true e = unmarked (b ∷ []) (fed_lines bytes) (no_mark b [] other)
    by false e = onto_unmarked b (fed_lines bytes) other (is (grind (arith, nat_tests)))

passed_on : (bytes : List ℕ) (n : ℕ) → n ≤ length bytes → All (λ b. b ≢ 37) (take n bytes)
    → ((k : ℕ) → suc k ≡ n → n < length bytes → slice_index bytes k ≡ 10) → sources bytes ≡ onto (take n bytes) (sources (drop n bytes))
passed_on bytes zero within unsigned ends = sym (onto_none (sources bytes))
passed_on [] (suc n) within unsigned ends = absurd (omega (arith, within))
passed_on (b ∷ []) (suc zero) within unsigned ends = one_on b [] (All-head (λ x. x ≢ 37) b [] unsigned) (λ e. tt)
passed_on (b ∷ []) (suc (suc n)) within unsigned ends = absurd (omega (arith, within))
passed_on (b ∷ (c ∷ bytes)) (suc zero) within unsigned ends =
    one_on b (c ∷ bytes) (All-head (λ x. x ≢ 37) b [] unsigned) (λ e. absurd (e (ends zero refl (omega arith))))
passed_on (b ∷ (c ∷ bytes)) (suc (suc n)) within unsigned ends =
    let more = All-tail (λ x. x ≢ 37) b (take (suc n) (c ∷ bytes)) unsigned in
    one_on b (c ∷ bytes) (All-head (λ x. x ≢ 37) b (take (suc n) (c ∷ bytes)) unsigned)
    (λ e. begin_unmarked c bytes (All-head (λ x. x ≢ 37) c (take n bytes) more))
    ∙ ap (onto (b ∷ [])) (passed_on (c ∷ bytes) (suc n) (omega (arith, within)) more
    (λ k is less. ends (suc k) (ap suc is) (omega (arith, less))))
    ∙ onto_both (b ∷ []) (take (suc n) (c ∷ bytes)) (sources (drop (suc n) (c ∷ bytes)))

pub passed : (bytes : List ℕ) (n : ℕ) → n ≤ length bytes → All (λ b. b ≢ 37) (take n bytes)
    → ((k : ℕ) → suc k ≡ n → n < length bytes → slice_index bytes k ≡ 10) → IsPassed bytes n
passed bytes n within unsigned ends = record { within = within; are = passed_on bytes n within unsigned ends }

-- ---- Lines one after another

-- Some sources were cut off, and this many bytes of the next one's lines were seen.
pub record Cut (bytes : List ℕ) (all : List (List ℕ)) (rest : List ℕ) (seen : ℕ) : Type 0 where
  pub inside : length rest ≤ length bytes
  pub within : seen ≤ length rest
  pub are : sources bytes ≡ all ++ onto (take seen rest) (sources (drop seen rest))

pub cut_none : (bytes : List ℕ) → Cut bytes [] bytes 0
cut_none bytes = record { inside = omega arith; within = omega arith; are = sym (onto_none (sources bytes)) }

pub cut_on : (bytes : List ℕ) (all : List (List ℕ)) (rest : List ℕ) (seen n : ℕ) → Cut bytes all rest seen → IsPassed (drop seen rest) n
    → Cut bytes all rest (seen + n)
cut_on bytes all rest seen n cut passed = grind (arith, nat_tests, length-drop, onto_both, take-add, drop-drop)

pub cut_last : (bytes : List ℕ) (all : List (List ℕ)) (rest : List ℕ) (seen : ℕ) → Cut bytes all rest seen → seen ≡ length rest
    → all ++ rest ∷ [] ≡ sources bytes
cut_last bytes all rest seen cut end =
    let left : drop seen rest ≡ [] = ap (λ n. drop n rest) end ∙ drop-length rest in
    let whole : take seen rest ++ [] ≡ rest = ap (λ xs. take seen rest ++ xs) (sym left) ∙ take-append-drop seen rest in
    ap (λ x. all ++ x ∷ []) (sym whole) ∙ sym (cut.are ∙ ap (λ xs. all ++ onto (take seen rest) (sources xs)) left)

module _ (bytes : List ℕ) (all : List (List ℕ)) (rest : List ℕ) (seen : ℕ) (cut : Cut bytes all rest seen) (line : List ℕ)
    (is : IsFirstLine (drop seen rest) line) where
  abbrev before : List ℕ
  before = take seen rest

  counted : length before ≡ seen
  counted = length-take-le seen rest cut.within

  whole : rest ≡ before ++ (line ++ is.behind)
  whole = sym (take-append-drop seen rest) ∙ ap (λ xs. before ++ xs) is.all

  pub seen_within : seen + length line ≤ length rest
  seen_within = omega (arith, ap length whole, counted, length-append before (line ++ is.behind), length-append line is.behind)

  some : seen ≢ length rest → line ≢ []
  some more none = more (omega (arith, cut.within, length-drop seen rest, ap length (is.none none)))

  behind_is : drop (seen + length line) rest ≡ is.behind
  behind_is = grind (arith, nat_tests, whole, counted, drop-append-add, drop-append_seam)

  seen_is : take (seen + length line) rest ≡ before ++ line
  seen_is = grind (arith, nat_tests, whole, counted, take-append-add, take-append_seam)

  pub cut_mark : (new : List (List ℕ)) → seen ≢ length rest → is_mark line ≡ true → new ≡ all ++ take seen rest ∷ []
      → Cut bytes new (drop (seen + length line) rest) 0
  cut_mark new more mark added = grind (arith, nat_tests, some, length-drop, append-nil, append_assoc, behind_is, onto_none)

  pub cut_line : seen ≢ length rest → is_mark line ≡ false → Cut bytes all rest (seen + length line)
  cut_line more mark =
      let one : sources (drop seen rest) ≡ onto line (sources is.behind)
      = ap parts (is.first (some more)) ∙ unmarked line (fed_lines is.behind) mark in
      record {
        inside = cut.inside;
        within = seen_within;
        are = cut.are ∙ ap (λ xs. all ++ onto before xs) one ∙ ap (λ xs. all ++ xs) (onto_both before line (sources is.behind))
            ∙ ap (λ xs. all ++ onto xs (sources is.behind)) (sym seen_is)
            ∙ ap (λ xs. all ++ onto (take (seen + length line) rest) (sources xs)) (sym behind_is);
      }
