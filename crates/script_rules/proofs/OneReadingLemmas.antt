-- Bytes have at most one reading.
use Rattle.std.proofs.lemmas.Bool.Decides.{nat_tests}
use Rattle.std.proofs.Common.{arith, ◌≡◌, ◌≢◌, ℕ, ◌⊎◌, inl, inr, List, [], ◌∷◌, ◌++◌, length, refl, sym, ap, ◌∙◌, subst, codes, Ok, Err}
use Rattle.std.specs.Prelude.{Result}
use Rattle.std.specs.List.{AllByRecursion, filter, flat_map}
use Rattle.std.proofs.lemmas.List.Elements.{filter-append}
use Rattle.line_parts.specs.Numbers.{lines_of}
use Rattle.script_rules.specs.Grammar.{Fits, script_lines, is_some_line, AreScripts, IsRefused, IsFirstRefused, ScriptsOf}
use Rattle.script_rules.specs.declared.commands.Command.{Command}
use Rattle.script_rules.proofs.ReadingLemmas.{Line, Begins, Does, line_text, IsGood, texts, read_lines, read_lines_back, begun, script_texts, good_lines, Gathered, gather, gather_back}

-- the scripts of lines
read_scripts : List (List ℕ) → List (List Command)
read_scripts lines = (gather (read_lines lines)).1

read_scripts_back : (scripts : List (List Command)) → AllByRecursion (AllByRecursion Fits) scripts
    → read_scripts (flat_map script_lines scripts) ≡ scripts
unfolding read_scripts
read_scripts_back scripts h =
    ap (λ lines. (gather (read_lines lines)).1) (script_texts scripts)
    ∙ ap (λ ls. (gather ls).1) (read_lines_back (flat_map begun scripts) (good_lines scripts h))
    ∙ ap (λ (p : Gathered). p.1) (gather_back scripts)

-- ---- Refused lines

pub kept : (line : List ℕ) (lines : List (List ℕ)) → line ≢ [] → filter is_some_line (line ∷ lines) ≡ line ∷ filter is_some_line lines
kept line lines some = grind (arith, nat_tests)

-- a line among those of a list
middle : (xs ys : List (List ℕ)) (line : List ℕ) (ls : List Line) → AllByRecursion IsGood ls → xs ++ line ∷ ys ≡ texts ls
    → (l : Line) × (IsGood l × (line ≡ line_text l))
middle [] ys line [] h e = absurd (cc)
middle [] ys line (l ∷ ls) h e = let first : line ≡ line_text l = cc in (l, (h.0, first))
middle (x ∷ xs) ys line [] h e = absurd (cc)
middle (x ∷ xs) ys line (l ∷ ls) h e = let more : xs ++ line ∷ ys ≡ texts ls = cc in middle xs ys line ls h.1 more

-- the first line of scripts
first_line : (scripts : List (List Command)) (line : List ℕ) (lines : List (List ℕ)) → line ∷ lines ≡ flat_map script_lines scripts
    → line ≡ codes "script"
first_line [] line lines e = absurd (cc)
first_line (script ∷ scripts) line lines e = cc

none_refused : (scripts others : List (List Command)) (before after : List (List ℕ)) (line : List ℕ)
    → AreScripts before scripts → IsRefused scripts line → AreScripts (before ++ line ∷ after) others → ⊥
none_refused scripts others before after line good bad all =
    let parts : filter is_some_line before ++ line ∷ filter is_some_line after ≡ flat_map script_lines others
    =
    ap (λ more. filter is_some_line before ++ more) (sym (kept line after bad.some))
    ∙ sym (filter-append is_some_line before (line ∷ after)) ∙ all.text in
    let found = middle (filter is_some_line before) (filter is_some_line after) line (flat_map begun others) (good_lines others all.fit)
    (parts ∙ script_texts others) in
    by found.0 found.1.0 found.1.1 parts
  where
    by : (l : Line) → IsGood l → line ≡ line_text l
        → filter is_some_line before ++ line ∷ filter is_some_line after ≡ flat_map script_lines others → ⊥
    by Begins fits text parts = bad.begins_none text
    by (Does c) fits text parts = bad.none (λ none. bad.begins_none (first_line others line (filter is_some_line after) (
        sym (ap (λ xs. xs ++ line ∷ filter is_some_line after) (good.text ∙ ap (flat_map script_lines) none))
        ∙ parts))) c (record { fits = fits; text = text })

-- two places in one list: the same, or one before the other
abbrev Places : List (List ℕ) → List (List ℕ) → List ℕ → List ℕ → Type 0
Places a b x y = (length a ≡ length b) ⊎ ((more : List (List ℕ)) × (b ≡ a ++ x ∷ more)) ⊎ ((more : List (List ℕ)) × (a ≡ b ++ y ∷ more))

places_later : (l m : List ℕ) (a b : List (List ℕ)) (x y : List ℕ) → l ≡ m → Places a b x y → Places (l ∷ a) (m ∷ b) x y
places_later l m a b x y same h = grind (arith, nat_tests)

places : (a b : List (List ℕ)) (x y : List ℕ) (more others : List (List ℕ)) → a ++ x ∷ more ≡ b ++ y ∷ others → Places a b x y
places [] [] x y more others e = inl refl
places [] (m ∷ b) x y more others e = inr (inl (b, cc))
places (l ∷ a) [] x y more others e = inr (inr (a, cc))
places (l ∷ a) (m ∷ b) x y more others e =
    let rest : a ++ x ∷ more ≡ b ++ y ∷ others = cc in
    let first : l ≡ m = cc in
    places_later l m a b x y first (places a b x y more others rest)

same_place : (lines : List (List ℕ)) (n m : ℕ) → IsFirstRefused lines n → IsFirstRefused lines m → n ≡ m
same_place lines n m p q = grind (arith, nat_tests, places, none_refused)

pub same_reading : (bytes : List ℕ) (r s : Result (List (List Command)) ℕ) → ScriptsOf bytes r → ScriptsOf bytes s → r ≡ s
same_reading bytes (Ok a) (Ok b) p q =
    ap Ok (sym (read_scripts_back a p.fit) ∙ ap read_scripts (sym p.text ∙ q.text) ∙ read_scripts_back b q.fit)
same_reading bytes (Ok a) (Err n) p q =
    absurd (none_refused q.scripts a q.before q.after q.line q.good q.bad (subst (λ ls. AreScripts ls a) q.all p))
same_reading bytes (Err n) (Ok a) p q =
    absurd (none_refused p.scripts a p.before p.after p.line p.good p.bad (subst (λ ls. AreScripts ls a) p.all q))
same_reading bytes (Err n) (Err m) p q = ap Err (same_place (lines_of bytes) n m p q)
