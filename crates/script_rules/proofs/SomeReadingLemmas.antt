-- All bytes have a reading: of each line it is decided whether it begins a script, is a command, or neither.
use Rattle.std.proofs.Common.{◌≡◌, ◌≢◌, ℕ, ◌+◌, ◌^◌, List, [], ◌∷◌, ◌++◌, length, map, inl, inr, refl, sym, ap, ◌∙◌, subst, codes, Ok, Err}
use Rattle.std.specs.Prelude.{Result, ◌⊎◌}
use Rattle.std.specs.List.{AllByRecursion, filter, flat_map}
use Rattle.line_parts.specs.Numbers.{lines_of}
use Rattle.line_parts.proofs.DecisionLemmas.{Decided, both, below, are_bytes, same}
use Rattle.script_rules.specs.Grammar.{Part, Bits, Hex, IsPart, written, command_line, Fits, is_some_line, script_lines, IsRefused, ScriptsOf}
use Rattle.script_rules.specs.declared.commands.Command.{Command}
use Rattle.script_rules.proofs.ReadingLemmas.{Line, Begins, Does, line_text, IsGood, read_line, read_line_back}

-- ---- One line

are_parts : (parts : List Part) → Decided (AllByRecursion IsPart parts)
are_parts [] = inl tt
are_parts (Bits width n ∷ parts) = both (below n (2 ^ width)) (are_parts parts)
are_parts (Hex bytes ∷ parts) = both (are_bytes bytes) (are_parts parts)

is_good : (l : Line) → Decided (IsGood l)
is_good Begins = inl tt
is_good (Does c) = are_parts (written c).1

abbrev IsLine : List ℕ → Type 0
IsLine line = (l : Line) × (IsGood l × (line ≡ line_text l))

found : List ℕ → Line
found line = read_line (line ++ 10 ∷ [])

is_found : (line : List ℕ) (is : IsLine line) → found line ≡ is.0
unfolding found
is_found line (l, (good, text)) = ap (λ t. read_line (t ++ 10 ∷ [])) text ∙ read_line_back l good

is_line : (line : List ℕ) → Decided (IsLine line)
is_line line = go (is_good (found line)) (same line (line_text (found line)))
  where
    go : Decided (IsGood (found line)) → Decided (line ≡ line_text (found line)) → Decided (IsLine line)
    go (inl good) (inl text) = inl (found line, (good, text))
    go (inr none) text = inr (λ l. none (subst IsGood (sym (is_found line l)) l.1.0))
    go good (inr none) = inr (λ l. none (l.1.1 ∙ ap line_text (sym (is_found line l))))

-- ---- Many lines

-- The lines that aren't empty are these commands and then these scripts.
record IsRest (lines : List (List ℕ)) (commands : List Command) (scripts : List (List Command)) : Type 0 where
  fit : AllByRecursion Fits commands
  all_fit : AllByRecursion (AllByRecursion Fits) scripts
  text : filter is_some_line lines ≡ map command_line commands ++ flat_map script_lines scripts

-- Those before this line are, and it is the first that isn't.
record IsFirst (Bad : List ℕ → Type 0) (lines : List (List ℕ)) (commands : List Command) (scripts : List (List Command)) : Type 0 where
  before : List (List ℕ)
  line : List ℕ
  after : List (List ℕ)
  all : lines ≡ before ++ line ∷ after
  good : IsRest before commands scripts
  bad : Bad line

abbrev IsRead : (List ℕ → Type 0) → List (List ℕ) → List Command → List (List Command) → Type 0
IsRead Bad lines commands scripts = IsRest lines commands scripts ⊎ IsFirst Bad lines commands scripts

no_lines : IsRest [] [] []
no_lines = record { fit = tt; all_fit = tt; text = refl }

blank : {commands : List Command} {scripts : List (List Command)} (lines : List (List ℕ)) → IsRest lines commands scripts
    → IsRest ([] ∷ lines) commands scripts
blank lines is = record { fit = is.fit; all_fit = is.all_fit; text = is.text }

begin : {commands : List Command} {scripts : List (List Command)} (l : List ℕ) → l ≡ codes "script" → (lines : List (List ℕ))
    → IsRest lines commands scripts → IsRest (l ∷ lines) [] (commands ∷ scripts)
begin l begins lines is =
    record { fit = tt; all_fit = (is.fit, is.all_fit); text = rw begins (ap (λ ls. codes "script" ∷ ls) is.text) }

-- one line more in front
in_front : {Bad Worse : List ℕ → Type 0} {commands now : List Command} {scripts later : List (List Command)} (l : List ℕ)
    → ((line : List ℕ) → Bad line → Worse line)
    → ((lines : List (List ℕ)) → IsRest lines commands scripts → IsRest (l ∷ lines) now later)
    → (lines : List (List ℕ)) → IsRead Bad lines commands scripts → IsRead Worse (l ∷ lines) now later
in_front l worse more lines (inl is) = inl (more lines is)
in_front l worse more lines (inr is) = inr (record {
  before = l ∷ is.before;
  line = is.line;
  after = is.after;
  all = ap (λ ls. l ∷ ls) is.all;
  good = more is.before is.good;
  bad = worse is.line is.bad;
})

at_once : {Bad : List ℕ → Type 0} (line : List ℕ) (lines : List (List ℕ)) → Bad line → IsRead Bad (line ∷ lines) [] []
at_once line lines bad = inr (record { before = []; line = line; after = lines; all = refl; good = no_lines; bad = bad })

-- after a script has begun
abbrev IsNone : List ℕ → Type 0
IsNone line = (line ≢ []) × (IsLine line → ⊥)

abbrev Reads : List (List ℕ) → Type 0
Reads lines = (commands : List Command) × (scripts : List (List Command)) × IsRead IsNone lines commands scripts

read : (lines : List (List ℕ)) → Reads lines
read [] = ([], [], inl no_lines)
read ([] ∷ lines) = let r = read lines in (r.0, r.1, in_front [] (λ _ bad. bad) blank lines r.2)
read ((b ∷ line) ∷ lines) = elim (is_line (b ∷ line)) [
  | inl is ↦ by is.0 is.1.0 is.1.1 (read lines)
  | inr none ↦ ([], [], at_once {Bad = IsNone} (b ∷ line) lines (λ e. cc, none))
]
  where
    by : (l : Line) → IsGood l → b ∷ line ≡ line_text l → Reads lines → Reads ((b ∷ line) ∷ lines)
    by Begins good text (cs, scripts, is) =
        ([], cs ∷ scripts, in_front (b ∷ line) (λ _ bad. bad) (begin (b ∷ line) text) lines is)
    by (Does c) good text (cs, scripts, is) = (
      c ∷ cs,
      scripts,
      in_front (b ∷ line) (λ _ bad. bad)
          (λ ls rest. record {
            fit = (good, rest.fit);
            all_fit = rest.all_fit;
            text = rw text (ap (λ ls. command_line c ∷ ls) rest.text);
          }) lines is,
    )

-- The first line that isn't empty begins a script, or is refused.
read_all : (lines : List (List ℕ)) → (scripts : List (List Command)) × IsRead (IsRefused scripts) lines [] scripts
read_all [] = ([], inl no_lines)
read_all ([] ∷ lines) = let r = read_all lines in (r.0, in_front [] (λ _ bad. bad) blank lines r.1)
read_all ((b ∷ line) ∷ lines) = elim (same (b ∷ line) (codes "script")) [
  | inl begins ↦ (let r = read lines in (
    r.0 ∷ r.1,
    in_front (b ∷ line)
        (λ l bad. record {
          some = bad.0;
          begins_none = λ e. bad.1 (Begins, (tt, e));
          none = λ _ c is. bad.1 (Does c, (is.fits, is.text));
        }) (begin (b ∷ line) begins) lines r.2,
  ))
  | inr other ↦ (
    [],
    at_once {Bad = IsRefused []} (b ∷ line) lines
        (record { some = λ e. cc; begins_none = other; none = λ some. absurd (some refl) }),
  )
]

pub some_reading : (bytes : List ℕ) → (r : Result (List (List Command)) ℕ) × ScriptsOf bytes r
some_reading bytes = by (read_all (lines_of bytes))
  where
    by : (scripts : List (List Command)) × IsRead (IsRefused scripts) (lines_of bytes) [] scripts
        → (r : Result (List (List Command)) ℕ) × ScriptsOf bytes r
    by (scripts, inl is) = (Ok scripts, record { fit = is.all_fit; text = is.text })
    by (scripts, inr is) = (
      Err (length is.before + 1),
      record {
        before = is.before;
        scripts = scripts;
        line = is.line;
        after = is.after;
        all = is.all;
        place = refl;
        good = record { fit = is.good.all_fit; text = is.good.text };
        bad = is.bad;
      },
    )
