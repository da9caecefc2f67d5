-- Lines of scripts, read back.
use Rattle.std.proofs.Common.{◌≡◌, ℕ, List, [], ◌∷◌, ◌++◌, length, map, drop, get_or, refl, sym, ap, ◌∙◌, append_assoc, append-nil, codes}
use Rattle.std.specs.List.{AllByRecursion, flat_map}
use Rattle.line_parts.specs.Numbers.{number, fields, hex}
use Rattle.line_parts.proofs.FieldLemmas.{read_by, read_fields, read_fields_back, read_hex, read_hex_back}
use Rattle.script_rules.specs.Grammar.{Part, Bits, Hex, word, part_text, written, command_line, Fits, script_lines}
use Rattle.script_rules.specs.declared.commands.Command.{Command}
use Rattle.script_rules.specs.declared.commands.Command.TheVariants.{MakeList, MakeText, MakeBits, MakeMap, MakeValue, Push, Insert, Pop, Remove, At, Put, Truncate, Byte, Front, Append, SetBit, UnsetBit, HasBit, Union, Ones, Bind, Find, Unbind, Load, Store, Len, Show, CopyTo, DropName}

-- a line that isn't empty: it begins a script, or is a command
pub data Line : Type 0 where
  Begins : Line
  Does : (command : Command) → Line

abbrev pub line_text : Line → List ℕ
line_text Begins = codes "script"
line_text (Does command) = command_line command

abbrev pub IsGood : Line → Type 0
IsGood Begins = Unit {0}
IsGood (Does command) = Fits command

-- ---- One line

made : ℕ → (List ℕ → Command) → List ℕ → Line
made k make text = Does (make (read_fields k text).0)

abbrev one : (ℕ → Command) → List ℕ → Line
one make = made 1 (λ ns. make (get_or ns 0 0))

abbrev two : (ℕ → ℕ → Command) → List ℕ → Line
two make = made 2 (λ ns. make (get_or ns 0 0) (get_or ns 1 0))

abbrev three : (ℕ → ℕ → ℕ → Command) → List ℕ → Line
three make = made 3 (λ ns. make (get_or ns 0 0) (get_or ns 1 0) (get_or ns 2 0))

append_of : List ℕ × List ℕ → Line
append_of f = Does (Append (get_or f.0 0 0) (read_hex (drop 1 f.1)).0)

abbrev number_of : Part → ℕ
number_of (Bits width n) = n
number_of (Hex bytes) = 0

made_back : (make : List ℕ → Command) (ns : List ℕ) → made (length ns) make (fields ns ++ 10 ∷ []) ≡ Does (make ns)
unfolding made
made_back make ns = ap (λ f. Does (make f.0)) (read_fields_back ns (10 ∷ []) refl)

append_back : (name : ℕ) (bytes : List ℕ) → Fits (Append name bytes)
    → append_of (read_fields 1 (flat_map part_text (word name ∷ Hex bytes ∷ []) ++ 10 ∷ [])) ≡ Does (Append name bytes)
unfolding append_of
append_back name bytes h =
    let rest = 32 ∷ (hex bytes ++ 10 ∷ []) in
    let text : (number name ++ (32 ∷ (hex bytes ++ []))) ++ (10 ∷ []) ≡ (number name ++ []) ++ rest
    = append_assoc (number name) (32 ∷ (hex bytes ++ [])) (10 ∷ [])
    ∙ ap (λ more. number name ++ (32 ∷ more)) (append_assoc (hex bytes) [] (10 ∷ []))
    ∙ sym (append_assoc (number name) [] rest) in
    ap (λ more. append_of (read_fields 1 (32 ∷ more))) text
    ∙ ap append_of (read_fields_back (name ∷ []) rest refl)
    ∙ ap (λ f. Does (Append name f.0)) (read_hex_back bytes [] h.1.0)

-- the line of a text with a line feed
pub read_line : List ℕ → Line
read_line = read_by Begins
    ((codes "script", λ text. Begins)
    ∷ (codes "list", one MakeList)
    ∷ (codes "text", one MakeText)
    ∷ (codes "bits", two MakeBits)
    ∷ (codes "map", one MakeMap)
    ∷ (codes "value", two MakeValue)
    ∷ (codes "push", two Push)
    ∷ (codes "insert", three Insert)
    ∷ (codes "pop", one Pop)
    ∷ (codes "remove", two Remove)
    ∷ (codes "at", two At)
    ∷ (codes "put", three Put)
    ∷ (codes "truncate", two Truncate)
    ∷ (codes "byte", two Byte)
    ∷ (codes "front", two Front)
    ∷ (codes "append", λ text. append_of (read_fields 1 text))
    ∷ (codes "set", two SetBit)
    ∷ (codes "unset", two UnsetBit)
    ∷ (codes "has", two HasBit)
    ∷ (codes "union", two Union)
    ∷ (codes "ones", one Ones)
    ∷ (codes "bind", three Bind)
    ∷ (codes "find", two Find)
    ∷ (codes "unbind", two Unbind)
    ∷ (codes "load", one Load)
    ∷ (codes "store", two Store)
    ∷ (codes "len", one Len)
    ∷ (codes "show", one Show)
    ∷ (codes "copy", two CopyTo)
    ∷ (codes "drop", one DropName)
    ∷ [])

pub read_line_back : (l : Line) → IsGood l → read_line (line_text l ++ 10 ∷ []) ≡ l
unfolding read_line
read_line_back Begins h = refl
read_line_back (Does (Append name bytes)) h = append_back name bytes h
read_line_back (Does c) h = made_back _ (map number_of (written c).1)

-- ---- Many lines

abbrev pub texts : List Line → List (List ℕ)
texts ls = map line_text ls

pub read_lines : List (List ℕ) → List Line
read_lines lines = map (λ line. read_line (line ++ 10 ∷ [])) lines

pub read_lines_back : (ls : List Line) → AllByRecursion IsGood ls → read_lines (texts ls) ≡ ls
unfolding read_lines
read_lines_back [] h = refl
read_lines_back (l ∷ ls) h = ap (λ m. m ∷ read_lines (texts ls)) (read_line_back l h.0) ∙ ap (λ ms. l ∷ ms) (read_lines_back ls h.1)

-- ---- Scripts

abbrev pub begun : List Command → List Line
begun script = Begins ∷ map Does script

does_texts : (script : List Command) (more : List Line) → texts (map Does script ++ more) ≡ map command_line script ++ texts more
does_texts [] more = refl
does_texts (c ∷ script) more = ap (λ ls. command_line c ∷ ls) (does_texts script more)

pub script_texts : (scripts : List (List Command)) → flat_map script_lines scripts ≡ texts (flat_map begun scripts)
script_texts [] = refl
script_texts (script ∷ scripts) =
    ap (λ ls. codes "script" ∷ map command_line script ++ ls) (script_texts scripts)
    ∙ ap (λ ls. codes "script" ∷ ls) (sym (does_texts script (flat_map begun scripts)))

good_does : (script : List Command) (more : List Line) → AllByRecursion Fits script → AllByRecursion IsGood more
    → AllByRecursion IsGood (map Does script ++ more)
good_does [] more h g = g
good_does (c ∷ script) more h g = (h.0, good_does script more h.1 g)

pub good_lines : (scripts : List (List Command)) → AllByRecursion (AllByRecursion Fits) scripts
    → AllByRecursion IsGood (flat_map begun scripts)
good_lines [] h = tt
good_lines (script ∷ scripts) h = (tt, good_does script (flat_map begun scripts) h.0 (good_lines scripts h.1))

abbrev pub Gathered : Type 0
Gathered = List Command × List (List Command)

-- from the last line on: the commands of a script that has not begun, and the scripts after it
unfoldable pub gather : List Line → Gathered
gather [] = ([], [])
gather (Begins ∷ ls) = let p = gather ls in ([], p.0 ∷ p.1)
gather (Does c ∷ ls) = let p = gather ls in (c ∷ p.0, p.1)

gather_does : (script : List Command) (ls : List Line)
    → ◌≡◌ {A = Gathered} (gather (map Does script ++ ls)) (script ++ (gather ls).0, (gather ls).1)
unfolding gather
gather_does [] ls = refl
gather_does (c ∷ script) ls = ap (λ (p : Gathered). (c ∷ p.0, p.1)) (gather_does script ls)

pub gather_back : (scripts : List (List Command)) → ◌≡◌ {A = Gathered} (gather (flat_map begun scripts)) ([], scripts)
unfolding gather
gather_back [] = refl
gather_back (script ∷ scripts) =
    ap (λ (p : Gathered). ([], p.0 ∷ p.1)) (gather_does script (flat_map begun scripts))
    ∙ ap (λ (p : Gathered). ([], (script ++ p.0) ∷ p.1)) (gather_back scripts)
    ∙ ap (λ s. ([], s ∷ scripts)) (append-nil script)
