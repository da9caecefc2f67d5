-- Lines one after another.
use Rattle.std.proofs.Common.{◌≡◌, ℕ, ◌+◌, ◌/◌, ◌%◌, ◌≤◌, Bool, true, false, ◌||◌, IsTrue, List, [], ◌∷◌, ◌++◌, length, Option, Some, None, refl, sym, ap, ◌∙◌, subst, arith, append_assoc, length-append}
use Rattle.std.specs.Prelude.{◌==◌, IfSome}
use Rattle.std.specs.List.{onto_first, flat_map}
use Rattle.std.proofs.lemmas.List.Splits.{slice_split-cons_yes, slice_split-cons_no}
use Rattle.std.proofs.lemmas.Bool.{or_parts, or_from}
use Rattle.std.proofs.lemmas.Bool.Decides.{nat_tests}
use Rattle.std.proofs.lemmas.Option.{some_pair_parts}
use Rattle.line_parts.specs.Numbers.{lines_of, number, fields, hex, hex_digit, hex_pair}
use Rattle.line_parts.proofs.NumberLemmas.{number_by_steps}
use Rattle.line_parts.specs.Reads.{is_word_end, ReadsFront}
use Rattle.line_parts.specs.Lines.{is_line_end, lines_behind, TakesLine, RefusesLine}

-- ---- Line feeds

abbrev pub has_feed : List ℕ → Bool
has_feed [] = false
has_feed (b ∷ bs) = b == 10 || has_feed bs

-- two lists without a line feed have none when they are joined
pub plain : (xs ys : List ℕ) → has_feed xs ≡ false → has_feed ys ≡ false → has_feed (xs ++ ys) ≡ false
plain [] ys p q = q
plain (x ∷ xs) ys p q =
    let parts = or_parts (x == 10) (has_feed xs) p in or_from (x == 10) _ parts.0 (plain xs ys parts.1 q)

pub plain_number : (k : ℕ) → has_feed (number k) ≡ false
plain_number = number_by_steps (λ k ds. has_feed ds ≡ false) (λ k low. grind (arith, nat_tests))
    (λ k ds high front. plain ds ((48 + k % 10) ∷ []) front (grind (arith, nat_tests)))

pub plain_fields : (ns : List ℕ) → has_feed (fields ns) ≡ false
plain_fields [] = refl
plain_fields (n ∷ ns) = plain (number n) (fields ns) (plain_number n) (plain_fields ns)

plain_pairs : (bytes : List ℕ) → has_feed (flat_map hex_pair bytes) ≡ false
plain_pairs [] = refl
plain_pairs (b ∷ bytes) =
    let high : (hex_digit (b / 16) == 10) ≡ false = grind (arith, nat_tests) in
    let low : (hex_digit (b % 16) == 10) ≡ false = grind (arith, nat_tests) in
    rw (high, low) (plain_pairs bytes)

pub plain_hex : (bytes : List ℕ) → has_feed (hex bytes) ≡ false
plain_hex [] = refl
plain_hex (b ∷ bytes) = plain_pairs (b ∷ bytes)

-- ---- The first line

-- a line, and what follows it
pub ended : (line rest : List ℕ) → has_feed line ≡ false → is_line_end rest ≡ true → lines_of (line ++ rest) ≡ line ∷ lines_behind rest
ended [] [] p e = refl
ended [] (c ∷ cs) p e = slice_split-cons_yes (λ b. b == 10) c cs e
ended (b ∷ line) rest p e =
    let parts = or_parts (b == 10) (has_feed line) p in
    slice_split-cons_no (λ x. x == 10) b (line ++ rest) parts.0 ∙ ap (onto_first b) (ended line rest parts.1 e)

pub record Split (bytes : List ℕ) : Type 0 where
  pub line : List ℕ
  pub rest : List ℕ
  pub all : bytes ≡ line ++ rest
  pub plain_line : has_feed line ≡ false
  pub ends : is_line_end rest ≡ true

pub first_line : (bytes : List ℕ) → Split bytes
first_line [] = record { line = []; rest = []; all = refl; plain_line = refl; ends = refl }
first_line (b ∷ bytes) = step (b == 10) refl (first_line bytes)
  where
    step : (t : Bool) → (b == 10) ≡ t → Split bytes → Split (b ∷ bytes)
    step true is s = record { line = []; rest = b ∷ bytes; all = refl; plain_line = refl; ends = is }
    step false is s = record {
      line = b ∷ s.line;
      rest = s.rest;
      all = ap (λ xs. b ∷ xs) s.all;
      plain_line = rw is s.plain_line;
      ends = s.ends;
    }

-- a word ends where a line ends
pub word_ends : (rest : List ℕ) → is_line_end rest ≡ true → IsTrue (is_word_end rest)
word_ends [] e = refl
word_ends (c ∷ cs) e = grind (arith, nat_tests)

-- nothing was read of the first line, or less than the line
pub no_line : {A : Type 0} (Is : A → Type 0) (text : A → List ℕ) (bytes : List ℕ) (read : Option (A × List ℕ))
    → ReadsFront Is text bytes read → IfSome read (λ x. false ≡ is_line_end x.1)
    → (a : A) (rest : List ℕ) → Is a → is_line_end rest ≡ true → bytes ≡ text a ++ rest → ⊥
no_line Is text bytes None h more a rest is ends e = let none = h.only a rest is (word_ends rest ends) e in cc
no_line Is text bytes (Some (b, behind)) h more a rest is ends e =
    let same = (some_pair_parts b a behind rest (h.only a rest is (word_ends rest ends) e)).1 in cc

-- ---- Progress

-- some lines were read, and these bytes are left
pub record Progress {X : Type 0} (Are : List (List ℕ) → X → Type 0) (bytes rest : List ℕ) (read : X) (count : ℕ) : Type 0 where
  pub before : List (List ℕ)
  pub all : lines_of bytes ≡ before ++ lines_of rest
  pub counted : count ≡ length before
  pub are : Are before read
  pub small : count + length rest ≤ length bytes

pub no_progress : {X : Type 0} (Are : List (List ℕ) → X → Type 0) (bytes : List ℕ) (read : X) → Are [] read
    → Progress Are bytes bytes read 0
no_progress Are bytes read are = record { before = []; all = refl; counted = refl; are = are; small = omega arith }

pub more_progress : {X : Type 0} (Are : List (List ℕ) → X → Type 0) (bytes rest behind : List ℕ) (c : ℕ) (next : List ℕ) (old new : X)
    (count : ℕ)
    → Progress Are bytes rest old count → TakesLine Are rest behind old new → behind ≡ c ∷ next → Progress Are bytes next new (count + 1)
more_progress Are bytes rest behind c next old new count p t feed =
    let small = p.small in
    let counted = p.counted in
    let shorter = t.shorter in
    let lines : lines_of rest ≡ t.line ∷ lines_of next = t.first ∙ ap (λ xs. t.line ∷ lines_behind xs) feed in
    record {
      before = p.before ++ t.line ∷ [];
      all = p.all ∙ ap (λ xs. p.before ++ xs) lines ∙ sym (append_assoc p.before (t.line ∷ []) (lines_of next));
      counted = omega (arith, length-append p.before (t.line ∷ []));
      are = t.adds p.before p.are;
      small = omega (arith, ap length feed);
    }

pub all_read : {X : Type 0} (Are : List (List ℕ) → X → Type 0) (bytes rest behind : List ℕ) (old new : X) (count : ℕ)
    → Progress Are bytes rest old count
    → TakesLine Are rest behind old new → behind ≡ [] → Are (lines_of bytes) new
all_read Are bytes rest behind old new count p t none =
    let lines : lines_of rest ≡ t.line ∷ [] = t.first ∙ ap (λ xs. t.line ∷ lines_behind xs) none in
    subst (λ xs. Are xs new) (sym (p.all ∙ ap (λ xs. p.before ++ xs) lines)) (t.adds p.before p.are)

pub all_refused : {X : Type 0} (Are : List (List ℕ) → X → Type 0) (Is : List (List ℕ) → ℕ → Type 0) (bytes rest : List ℕ) (read : X)
    (count : ℕ) → Progress Are bytes rest read count → RefusesLine Are Is rest read → Is (lines_of bytes) (count + 1)
all_refused Are Is bytes rest read count p r = rw (p.all, p.counted) (r p.before p.are)
