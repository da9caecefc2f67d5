-- The lines of scripts.
use Rattle.std.specs.Prelude.{◌≡◌, ◌≢◌, ℕ, ◌+◌, ◌^◌, ◌<◌, true, false, Bool, List, [], ◌∷◌, ◌++◌, length, map, codes, Result, Ok, Err}
use Rattle.std.specs.List.{AllByRecursion, flat_map, filter}
use Rattle.line_parts.specs.Numbers.{number, hex, IsByte, lines_of}
use Rattle.script_rules.specs.declared.commands.Command.{Command}
use Rattle.script_rules.specs.declared.commands.Command.TheVariants.{MakeList, MakeText, MakeBits, MakeMap, MakeValue, Push, Insert, Pop, Remove, At, Put, Truncate, Byte, Front, Append, SetBit, UnsetBit, HasBit, Union, Ones, Bind, Find, Unbind, Load, Store, Len, Show, CopyTo, DropName}

-- A part of a line after its first word: a number of `width` bits, or bytes.
pub data Part : Type 0 where
  Bits : (width n : ℕ) → Part
  Hex : (bytes : List ℕ) → Part

abbrev pub word : ℕ → Part
word n = Bits 32 n

-- a part's text, after a space
abbrev pub part_text : Part → List ℕ
part_text (Bits width n) = 32 ∷ number n
part_text (Hex bytes) = 32 ∷ hex bytes

-- the part is within its type's range
abbrev pub IsPart : Part → Type 0
IsPart (Bits width n) = n < 2 ^ width
IsPart (Hex bytes) = AllByRecursion IsByte bytes

-- the first word of a command's line, and its parts
abbrev pub written : Command → List ℕ × List Part
written (MakeList name) = (codes "list", word name ∷ [])
written (MakeText name) = (codes "text", word name ∷ [])
written (MakeBits name capacity) = (codes "bits", word name ∷ word capacity ∷ [])
written (MakeMap name) = (codes "map", word name ∷ [])
written (MakeValue name value) = (codes "value", word name ∷ Bits 64 value ∷ [])
written (Push name value) = (codes "push", word name ∷ word value ∷ [])
written (Insert name at value) = (codes "insert", word name ∷ word at ∷ word value ∷ [])
written (Pop name) = (codes "pop", word name ∷ [])
written (Remove name at) = (codes "remove", word name ∷ word at ∷ [])
written (At name at) = (codes "at", word name ∷ word at ∷ [])
written (Put name at value) = (codes "put", word name ∷ word at ∷ word value ∷ [])
written (Truncate name len) = (codes "truncate", word name ∷ word len ∷ [])
written (Byte name byte) = (codes "byte", word name ∷ Bits 8 byte ∷ [])
written (Front name byte) = (codes "front", word name ∷ Bits 8 byte ∷ [])
written (Append name bytes) = (codes "append", word name ∷ Hex bytes ∷ [])
written (SetBit name bit) = (codes "set", word name ∷ word bit ∷ [])
written (UnsetBit name bit) = (codes "unset", word name ∷ word bit ∷ [])
written (HasBit name bit) = (codes "has", word name ∷ word bit ∷ [])
written (Union name other) = (codes "union", word name ∷ word other ∷ [])
written (Ones name) = (codes "ones", word name ∷ [])
written (Bind name key value) = (codes "bind", word name ∷ word key ∷ word value ∷ [])
written (Find name key) = (codes "find", word name ∷ word key ∷ [])
written (Unbind name key) = (codes "unbind", word name ∷ word key ∷ [])
written (Load name) = (codes "load", word name ∷ [])
written (Store name value) = (codes "store", word name ∷ Bits 64 value ∷ [])
written (Len name) = (codes "len", word name ∷ [])
written (Show name) = (codes "show", word name ∷ [])
written (CopyTo name other) = (codes "copy", word name ∷ word other ∷ [])
written (DropName name) = (codes "drop", word name ∷ [])

abbrev pub command_line : Command → List ℕ
command_line command = (written command).0 ++ flat_map part_text (written command).1

-- the command's numbers are within their types' ranges
abbrev pub Fits : Command → Type 0
Fits command = AllByRecursion IsPart (written command).1

-- the line is the command's
pub record IsCommand (line : List ℕ) (command : Command) : Type 0 where
  pub fits : Fits command
  pub text : line ≡ command_line command

-- a script's lines: one that begins it, and one for each command
abbrev pub script_lines : List Command → List (List ℕ)
script_lines script = codes "script" ∷ map command_line script

abbrev pub is_some_line : List ℕ → Bool
is_some_line [] = false
is_some_line (b ∷ line) = true

-- without its empty lines, the text is the lines of these scripts
pub record AreScripts (lines : List (List ℕ)) (scripts : List (List Command)) : Type 0 where
  pub fit : AllByRecursion (AllByRecursion Fits) scripts
  pub text : filter is_some_line lines ≡ flat_map script_lines scripts

-- After these scripts the line is refused: it is not empty and begins no script, and if a script has begun it is no
-- command either. So before the first script every other line is refused, even a command.
pub record IsRefused (scripts : List (List Command)) (line : List ℕ) : Type 0 where
  pub some : line ≢ []
  pub begins_none : line ≢ codes "script"
  pub none : scripts ≢ [] → (command : Command) → IsCommand line command → ⊥

-- line number n, from 1, is refused, and those before it are the lines of scripts
pub record IsFirstRefused (lines : List (List ℕ)) (n : ℕ) : Type 0 where
  pub before : List (List ℕ)
  pub scripts : List (List Command)
  pub line : List ℕ
  pub after : List (List ℕ)
  pub all : lines ≡ before ++ line ∷ after
  pub place : n ≡ length before + 1
  pub good : AreScripts before scripts
  pub bad : IsRefused scripts line

-- what the bytes mean: a list of scripts, or the number of the first line that is refused
abbrev pub ScriptsOf : List ℕ → Result (List (List Command)) ℕ → Type 0
ScriptsOf bytes (Ok scripts) = AreScripts (lines_of bytes) scripts
ScriptsOf bytes (Err n) = IsFirstRefused (lines_of bytes) n
