-- Lines of scripts, one after another.
use Rattle.std.proofs.Common.{◌≡◌, ◌≢◌, ℕ, zero, suc, ◌+◌, ◌-◌, ◌<◌, get_or, true, false, List, [], ◌∷◌, ◌++◌, length, Option, Some, refl, sym, ap, ◌∙◌, subst, arith, append_assoc, length-append, codes}
use Rattle.std.specs.Prelude.{slice_set, ◌==◌, IfSome}
use Rattle.std.proofs.lemmas.Bool.Decides.{nat_tests}
use Rattle.std.specs.List.{AllByRecursion, filter, flat_map}
use Rattle.std.proofs.lemmas.List.{append-nil, map_push}
use Rattle.std.proofs.lemmas.List.Concat.{flat_map-append}
use Rattle.std.proofs.lemmas.List.Elements.{filter-append}
use Rattle.arena_rules.proofs.ListLemmas.{all_append, all_parts}
use Rattle.line_parts.specs.Numbers.{lines_of, number, hex}
use Rattle.line_parts.specs.Reads.{ReadsFront}
use Rattle.line_parts.specs.Lines.{is_line_end, lines_behind, TakesLine, RefusesLine}
use Rattle.line_parts.proofs.LineLemmas.{has_feed, plain, plain_number, plain_hex, ended, first_line, no_line}
use Rattle.script_rules.specs.Grammar.{Part, Bits, Hex, part_text, written, command_line, Fits, script_lines, is_some_line, AreScripts, IsFirstRefused}
use Rattle.script_rules.specs.declared.commands.Command.{Command}
use Rattle.script_lines.specs.Adding.{AddsLast}

-- ---- A command's line has no line feed, isn't empty and doesn't begin with `script`

plain_parts : (parts : List Part) → has_feed (flat_map part_text parts) ≡ false
plain_parts [] = refl
plain_parts (Bits width n ∷ parts) = plain (number n) (flat_map part_text parts) (plain_number n) (plain_parts parts)
plain_parts (Hex bytes ∷ parts) = plain (hex bytes) (flat_map part_text parts) (plain_hex bytes) (plain_parts parts)

-- The first word of a command has no line feed, and its second letter isn't that of `script`.
first_word : (command : Command) → (has_feed (written command).0 ≡ false) × ((get_or (written command).0 1 99 == 99) ≡ false)
first_word command = grind (arith, nat_tests)

-- a line that begins with such a word is neither empty nor that of `script`
other_word : (w xs ys : List ℕ) → (get_or w 1 99 == 99) ≡ false → get_or ((w ++ xs) ++ ys) 1 99 ≢ 99
other_word [] xs ys h e = cc
other_word (a ∷ []) xs ys h e = cc
other_word (a ∷ b ∷ w) xs ys h e = grind (arith, nat_tests)

plain_command : (command : Command) → has_feed (command_line command) ≡ false
plain_command command = grind (arith, nat_tests, plain, first_word, plain_parts)

some_line : (command : Command) → command_line command ≢ []
some_line command e = grind (arith, nat_tests, other_word, first_word, get_or)

-- ---- Lists of lines

filter_one : (line : List ℕ) → line ≢ [] → filter is_some_line (line ∷ []) ≡ line ∷ []
filter_one line some = grind (arith, nat_tests)

-- ---- The last script

some_script : (scripts : List (List Command)) → scripts ≢ [] → 0 < length scripts
some_script [] some = absurd (some refl)
some_script (s ∷ scripts) some = omega arith

at_last : (scripts : List (List Command)) (k : ℕ) (command : Command) (r new : List Command) → k + 1 ≡ length scripts
    → r ≡ get_or scripts k r → new ≡ r ++ command ∷ [] → AddsLast command scripts (slice_set scripts k new)
at_last [] k command r new count is pushed = absurd (omega arith)
at_last (s ∷ []) zero command r new count is pushed = record {
  front = [];
  last = s;
  before = refl;
  after = ap (λ x. x ∷ []) (pushed ∙ ap (λ x. x ++ command ∷ []) is);
}
at_last (s ∷ []) (suc k) command r new count is pushed = absurd (omega arith)
at_last (s ∷ t ∷ scripts) zero command r new count is pushed = absurd (omega arith)
at_last (s ∷ t ∷ scripts) (suc k) command r new count is pushed =
    let more = at_last (t ∷ scripts) k command r new (omega arith) is pushed in
    record { front = s ∷ more.front; last = more.last; before = ap (λ xs. s ∷ xs) more.before; after = ap (λ xs. s ∷ xs) more.after }

pub adds_last : (scripts : List (List Command)) (count : ℕ) (command : Command) (r new : List Command) → scripts ≢ []
    → count ≡ length scripts → r ≡ get_or scripts (count - 1) r → new ≡ r ++ command ∷ []
    → AddsLast command scripts (slice_set scripts (count - 1) new)
adds_last scripts count command r new some is there pushed = grind (arith, nat_tests, at_last, some_script)

-- ---- The first line is taken

pub takes_empty : (bytes : List ℕ) (scripts : List (List Command)) → true ≡ is_line_end bytes
    → TakesLine AreScripts bytes bytes scripts scripts
takes_empty bytes scripts e = grind (arith, nat_tests, ended, filter-append, append-nil)

-- a line that begins a script
pub takes_script : (bytes behind : List ℕ) (old new : List (List Command)) → bytes ≡ codes "script" ++ behind → true ≡ is_line_end behind
    → new ≡ old ++ [] ∷ [] → TakesLine AreScripts bytes behind old new
takes_script bytes behind old new front e pushed = record {
  line = codes "script";
  first = ap lines_of front ∙ ended (codes "script") behind refl (sym e);
  shorter = omega (arith, ap length front);
  adds = λ lines are. subst (AreScripts (lines ++ codes "script" ∷ [])) (sym pushed) (record {
    fit = all_append (AllByRecursion Fits) old ([] ∷ []) are.fit (tt, tt);
    text = filter-append is_some_line lines (codes "script" ∷ []) ∙ ap (λ ls. ls ++ codes "script" ∷ []) are.text
        ∙ sym (flat_map-append script_lines old ([] ∷ []));
  });
}

-- the lines of the last script with one more command
last_lines : (front : List (List Command)) (last : List Command) (command : Command)
    → flat_map script_lines (front ++ (last ++ command ∷ []) ∷ []) ≡ flat_map script_lines (front ++ last ∷ []) ++ command_line command ∷ []
last_lines front last command = grind (arith, nat_tests, append-nil, codes, map_push, flat_map-append, append_assoc)

add_command : (lines : List (List ℕ)) (command : Command) (old new : List (List Command)) → Fits command → AddsLast command old new
    → AreScripts lines old → AreScripts (lines ++ command_line command ∷ []) new
add_command lines command old new fits adds are =
    let before : AllByRecursion (AllByRecursion Fits) (adds.front ++ adds.last ∷ [])
    = subst (AllByRecursion (AllByRecursion Fits)) adds.before are.fit in
    let fit = all_parts (AllByRecursion Fits) adds.front (adds.last ∷ []) before in
    subst (AreScripts (lines ++ command_line command ∷ [])) (sym adds.after) (record {
      fit = all_append (AllByRecursion Fits) adds.front ((adds.last ++ command ∷ []) ∷ []) fit.0
          (all_append Fits adds.last (command ∷ []) fit.1.0 (fits, tt), tt);
      text = filter-append is_some_line lines (command_line command ∷ [])
          ∙ ap (λ ls. filter is_some_line lines ++ ls) (filter_one (command_line command) (some_line command))
          ∙ ap (λ ls. ls ++ command_line command ∷ []) (are.text ∙ ap (flat_map script_lines) adds.before)
          ∙ sym (last_lines adds.front adds.last command);
    })

pub takes_command : (bytes behind : List ℕ) (command : Command) (old new : List (List Command))
    → ReadsFront Fits command_line bytes (Some (command, behind)) → true ≡ is_line_end behind → AddsLast command old new
    → TakesLine AreScripts bytes behind old new
takes_command bytes behind command old new read e adds = record {
  line = command_line command;
  first = ap lines_of read.found.1 ∙ ended (command_line command) behind (plain_command command) (sym e);
  shorter = omega (arith, ap length read.found.1, length-append (command_line command) behind);
  adds = λ lines are. add_command lines command old new read.found.0 adds are;
}

-- ---- The first line is refused

refuses : (scripts : List (List Command)) (bytes : List ℕ) → false ≡ is_line_end bytes
    → ((rest : List ℕ) → is_line_end rest ≡ true → bytes ≡ codes "script" ++ rest → ⊥)
    → (scripts ≢ [] → (command : Command) (rest : List ℕ) → Fits command → is_line_end rest ≡ true
    → bytes ≡ command_line command ++ rest → ⊥)
    → RefusesLine AreScripts IsFirstRefused bytes scripts
refuses scripts bytes some begins none = λ before are.
    let s = first_line bytes in
    record {
      before = before;
      scripts = scripts;
      line = s.line;
      after = lines_behind s.rest;
      all = ap (λ ls. before ++ ls) (ap lines_of s.all ∙ ended s.line s.rest s.plain_line s.ends);
      place = refl;
      good = are;
      bad = record {
        some = λ e. let all : bytes ≡ s.rest = s.all ∙ ap (λ xs. xs ++ s.rest) e in
            let ends : is_line_end bytes ≡ true = ap is_line_end all ∙ s.ends in cc;
        begins_none = λ e. begins s.rest s.ends (s.all ∙ ap (λ xs. xs ++ s.rest) e);
        none = λ begun command is. none begun command s.rest is.fits s.ends (s.all ∙ ap (λ xs. xs ++ s.rest) is.text);
      };
    }

-- no script was begun
pub refuses_first : (scripts : List (List Command)) (bytes : List ℕ) (count : ℕ) → false ≡ is_line_end bytes
    → ((rest : List ℕ) → bytes ≢ codes "script" ++ rest) → count ≡ length scripts → true ≡ (count == 0)
    → RefusesLine AreScripts IsFirstRefused bytes scripts
refuses_first scripts bytes count some other counted none = grind (arith, nat_tests, refuses, some_script)

-- nothing was read of the line, or less than the line
pub refuses_read : (scripts : List (List Command)) (bytes : List ℕ) (read : Option (Command × List ℕ)) → false ≡ is_line_end bytes
    → ((rest : List ℕ) → bytes ≢ codes "script" ++ rest) → ReadsFront Fits command_line bytes read
    → IfSome read (λ x. false ≡ is_line_end x.1) → RefusesLine AreScripts IsFirstRefused bytes scripts
refuses_read scripts bytes read some other h more =
    refuses scripts bytes some (λ rest ends e. other rest e) (λ begun. no_line Fits command_line bytes read h more)
