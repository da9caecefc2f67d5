-- Texts that are cut in two, and the readings of both parts.
use Rattle.std.proofs.lemmas.Bool.Decides.{nat_tests}
use Rattle.std.proofs.Common.{◌≡◌, ◌≢◌, ℕ, ◌+◌, ◌-◌, ◌<◌, ◌≤◌, Bool, true, false, List, [], ◌∷◌, ◌++◌, length, take, drop, get_or, get_or-drop, Some, None, Ok, Err, refl, sym, ap, ap₂, ◌∙◌, subst, arith, append_assoc, length-append, length-drop, take-append-drop, drop-drop, codes, Option}
use Rattle.std.specs.Option.{option_map}
use Rattle.std.proofs.lemmas.List.{take_all}
use Rattle.std.specs.Prelude.{Result, ◌==◌}
use Rattle.std.specs.List.{filter, flat_map, onto_first}
use Rattle.std.proofs.lemmas.List.Concat.{flat_map-append}
use Rattle.std.proofs.lemmas.List.Elements.{filter-append}
use Rattle.std.proofs.lemmas.List.Splits.{slice_split-cons_yes, slice_split-cons_no, length-slice_split}
use Rattle.memchr.specs.Find.{OccursAt, FindsNeedle, is_byte, places}
use Rattle.memchr.proofs.lemmas.CallerLemmas.{length-places}
use Rattle.memchr.proofs.lemmas.MatchLemmas.{OccursAt-split}
use Rattle.arena_rules.proofs.ListLemmas.{all_append}
use Rattle.line_parts.specs.Numbers.{lines_of}
use Rattle.line_parts.specs.Lines.{IsCause}
use Rattle.line_parts.specs.declared.lines.LinesErr.{LinesErr}
use Rattle.script_rules.specs.Grammar.{script_lines, is_some_line, AreScripts, IsRefused, IsFirstRefused, ScriptsOf}
use Rattle.script_rules.specs.declared.commands.Command.{Command}
use Rattle.script_lines.proofs.CountLemmas.{lines_few}
use Rattle.script_lines.specs.Cutting.{script_mark, IsCutAt, together}

-- ---- A search that begins later in the text

module _ (bytes needle : List ℕ) (from : ℕ) (within : from ≤ length bytes) where
  occurs_on : (k : ℕ) → OccursAt (drop from bytes) needle k → OccursAt bytes needle (from + k)
  occurs_on k o = grind (arith, nat_tests, length-drop, get_or, get_or-drop)

  occurs_back : (k : ℕ) → from ≤ k → OccursAt bytes needle k → OccursAt (drop from bytes) needle (k - from)
  occurs_back k low o = grind (arith, nat_tests, length-drop, get_or-drop, get_or)

  none_later : FindsNeedle (drop from bytes) needle 0 None → FindsNeedle bytes needle from None
  none_later none k low high o = none (k - from) (omega arith) (omega (arith, length-drop from bytes)) (occurs_back k low o)

  found_later : (at : ℕ) → FindsNeedle (drop from bytes) needle 0 (Some at) → FindsNeedle bytes needle from (Some (from + at))
  found_later at found = (
    record {
      low = omega arith;
      high = omega (arith, found.0.high, length-drop from bytes);
      before = λ k low high o. found.0.before (k - from) (omega arith) (omega (arith, high)) (occurs_back k low o);
    },
    occurs_on at found.1,
  )

  -- what is found in the bytes from this place on
  pub found : (r : Option ℕ) → FindsNeedle (take (length bytes - from) (drop from bytes)) needle 0 r
      → FindsNeedle bytes needle from (option_map (λ at. from + at) r)
  found r h = by r (subst (λ xs. FindsNeedle xs needle 0 r)
      (take_all (length bytes - from) (drop from bytes) (omega (arith, length-drop from bytes))) h)
    where
      by : (r : Option ℕ) → FindsNeedle (drop from bytes) needle 0 r → FindsNeedle bytes needle from (option_map (λ at. from + at) r)
      by None h = none_later h
      by (Some at) h = found_later at h

-- ---- Lines of both parts

onto_both : (b : ℕ) (lines more : List (List ℕ)) → 0 < length lines → onto_first b (lines ++ more) ≡ onto_first b lines ++ more
onto_both b lines more some = grind (arith, nat_tests)

lines_both : (first rest : List ℕ) → lines_of (first ++ 10 ∷ rest) ≡ lines_of first ++ lines_of rest
lines_both [] rest = slice_split-cons_yes (λ x. x == 10) 10 rest refl
lines_both (b ∷ first) rest = step (b == 10) refl (lines_both first rest)
  where
    step : (t : Bool) → (b == 10) ≡ t → lines_of (first ++ 10 ∷ rest) ≡ lines_of first ++ lines_of rest
        → lines_of (b ∷ first ++ 10 ∷ rest) ≡ lines_of (b ∷ first) ++ lines_of rest
    step true is more = slice_split-cons_yes (λ x. x == 10) b (first ++ 10 ∷ rest) is ∙ ap (λ ls. [] ∷ ls) more
        ∙ ap (λ ls. ls ++ lines_of rest) (sym (slice_split-cons_yes (λ x. x == 10) b first is))
    step false is more = slice_split-cons_no (λ x. x == 10) b (first ++ 10 ∷ rest) is ∙ ap (onto_first b) more
        ∙ onto_both b (lines_of first) (lines_of rest) (omega (arith, length-slice_split (λ x. x == 10) first))
        ∙ ap (λ ls. ls ++ lines_of rest) (sym (slice_split-cons_no (λ x. x == 10) b first is))

pub lines_counted : (bytes : List ℕ) → length (places (is_byte 10) bytes) + 1 ≡ length (lines_of bytes)
lines_counted bytes = ap (λ n. n + 1) (length-places (is_byte 10) bytes) ∙ sym (length-slice_split (λ x. x == 10) bytes)

-- ---- Readings of lines, one list after another

-- Lines that begin with `script` refuse none before a script has begun.
has_begun : (before : List (List ℕ)) (scripts : List (List Command)) (line : List ℕ) (after behind : List (List ℕ))
    → codes "script" ∷ behind ≡ before ++ line ∷ after → AreScripts before scripts → IsRefused scripts line → scripts ≢ []
has_begun [] scripts line after behind e good bad none =
    let first : line ≡ codes "script" = cc in
    bad.begins_none first
has_begun (first ∷ before) scripts line after behind e good bad none =
    let begins : codes "script" ≡ first = cc in
    let text : codes "script" ∷ filter is_some_line before ≡ []
    = ap (λ l. filter is_some_line (l ∷ before)) begins ∙ good.text ∙ ap (flat_map script_lines) none in
    cc

module _ (lines more : List (List ℕ)) where
  all_scripts : (a b : List (List Command)) → AreScripts lines a → AreScripts more b → AreScripts (lines ++ more) (a ++ b)
  all_scripts a b p q = grind (arith, nat_tests, all_append, filter-append, ap₂, flat_map-append)

  refused_first : (n : ℕ) → IsFirstRefused lines n → IsFirstRefused (lines ++ more) n
  refused_first n p = grind (arith, nat_tests, append_assoc)

refused_later : (lines more behind : List (List ℕ)) (a : List (List Command)) (n : ℕ) → AreScripts lines a
    → more ≡ codes "script" ∷ behind → IsFirstRefused more n → IsFirstRefused (lines ++ more) (length lines + n)
refused_later lines more behind a n are begins p = record {
  before = lines ++ p.before;
  scripts = a ++ p.scripts;
  line = p.line;
  after = p.after;
  all = ap (λ ls. lines ++ ls) p.all ∙ sym (append_assoc lines p.before (p.line ∷ p.after));
  place = omega (arith, p.place, length-append lines p.before);
  good = all_scripts lines p.before a p.scripts are p.good;
  bad = record {
    some = p.bad.some;
    begins_none = p.bad.begins_none;
    none = λ _. p.bad.none (has_begun p.before p.scripts p.line p.after behind (sym begins ∙ p.all) p.good p.bad);
  };
}

refused_within : (lines : List (List ℕ)) (n : ℕ) → IsFirstRefused lines n → n ≤ length lines
refused_within lines n p = omega (arith, p.place, ap length p.all, length-append p.before (p.line ∷ p.after))

-- ---- Readings of both parts

module _ (bytes : List ℕ) (at : ℕ) (cut : IsCutAt bytes at) where
  abbrev first : List ℕ
  first = take at bytes

  abbrev rest : List ℕ
  rest = drop (at + 1) bytes

  abbrev behind : List ℕ
  behind = drop (at + length script_mark) bytes

  mark_is : drop at bytes ≡ 10 ∷ codes "script" ++ 10 ∷ behind
  mark_is = OccursAt-split bytes script_mark at cut

  rest_is : rest ≡ codes "script" ++ 10 ∷ behind
  rest_is = sym (drop-drop 1 at bytes) ∙ ap (drop 1) mark_is

  lines_are : lines_of bytes ≡ lines_of first ++ lines_of rest
  lines_are =
      ap lines_of (sym (take-append-drop at bytes) ∙ ap (λ xs. first ++ xs) (mark_is ∙ ap (λ xs. 10 ∷ xs) (sym rest_is)))
      ∙ lines_both first rest

  begins : lines_of rest ≡ codes "script" ∷ lines_of behind
  begins = ap lines_of rest_is ∙ lines_both (codes "script") behind

  all_refused : (n : ℕ) → IsFirstRefused (lines_of first) n → IsFirstRefused (lines_of bytes) n
  all_refused n p = subst (λ ls. IsFirstRefused ls n) (sym lines_are) (refused_first (lines_of first) (lines_of rest) n p)

  pub read_together : (r s : Result (List (List Command)) ℕ) → ScriptsOf first r → ScriptsOf rest s
      → ScriptsOf bytes (together (length (lines_of first)) r s)
  read_together (Ok a) (Ok b) p q = subst (λ ls. AreScripts ls (a ++ b)) (sym lines_are) (all_scripts (lines_of first) (lines_of rest) a b p q)
  read_together (Ok a) (Err n) p q = subst (λ ls. IsFirstRefused ls (length (lines_of first) + n)) (sym lines_are)
      (refused_later (lines_of first) (lines_of rest) (lines_of behind) a n p begins q)
  read_together (Err n) s p q = all_refused n p

  pub first_cause : (e : LinesErr) → IsCause (λ n. ScriptsOf first (Err n)) e → IsCause (λ n. ScriptsOf bytes (Err n)) e
  first_cause e p = grind (arith, nat_tests, all_refused)

  -- the number of a line fits
  pub counted : (n : ℕ) → IsFirstRefused (lines_of rest) n → length (lines_of first) + n ≤ length bytes + 1
  counted n p = omega (
    arith,
    refused_within (lines_of rest) n p,
    lines_few bytes,
    ap length lines_are,
    length-append (lines_of first) (lines_of rest),
  )
