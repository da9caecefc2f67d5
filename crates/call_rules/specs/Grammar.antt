-- The lines of calls.
use Rattle.std.specs.Prelude.{◌≡◌, ◌≢◌, ℕ, ◌+◌, ◌^◌, ◌<◌, List, [], ◌∷◌, ◌++◌, length, codes, Result, Ok, Err}
use Rattle.std.specs.List.{AllByRecursion}
use Rattle.line_parts.specs.Numbers.{fields, hex, IsByte, lines_of}
use Rattle.call_rules.specs.declared.calls.Call.{Call}
use Rattle.call_rules.specs.declared.calls.Call.TheVariants.{Alloc, Grow, Shrink, Dealloc, Write, Read, Mark, Back, Reset, Used, Allocated}

-- the line of a call
abbrev pub call_line : Call → List ℕ
call_line (Alloc name size align fill) = codes "alloc" ++ fields (name ∷ size ∷ align ∷ fill ∷ [])
call_line (Grow name size align fill) = codes "grow" ++ fields (name ∷ size ∷ align ∷ fill ∷ [])
call_line (Shrink name size align) = codes "shrink" ++ fields (name ∷ size ∷ align ∷ [])
call_line (Dealloc name) = codes "dealloc" ++ fields (name ∷ [])
call_line (Write name at bytes) = codes "write" ++ fields (name ∷ at ∷ []) ++ 32 ∷ hex bytes
call_line (Read name) = codes "read" ++ fields (name ∷ [])
call_line (Mark name) = codes "mark" ++ fields (name ∷ [])
call_line (Back name) = codes "back" ++ fields (name ∷ [])
call_line Reset = codes "reset"
call_line Used = codes "used"
call_line Allocated = codes "allocated"

-- the call's numbers are within their types' ranges
abbrev pub Fits : Call → Type 0
Fits (Alloc name size align fill) = (name < 2 ^ 32) × (size < 2 ^ 64) × (align < 2 ^ 64) × (fill < 2 ^ 8)
Fits (Grow name size align fill) = (name < 2 ^ 32) × (size < 2 ^ 64) × (align < 2 ^ 64) × (fill < 2 ^ 8)
Fits (Shrink name size align) = (name < 2 ^ 32) × (size < 2 ^ 64) × (align < 2 ^ 64)
Fits (Dealloc name) = name < 2 ^ 32
Fits (Write name at bytes) = (name < 2 ^ 32) × (at < 2 ^ 64) × AllByRecursion IsByte bytes
Fits (Read name) = name < 2 ^ 32
Fits (Mark name) = name < 2 ^ 32
Fits (Back name) = name < 2 ^ 32
Fits Reset = Unit {0}
Fits Used = Unit {0}
Fits Allocated = Unit {0}

-- the line is that of the call
pub record IsCall (line : List ℕ) (call : Call) : Type 0 where
  pub fits : Fits call
  pub text : line ≡ call_line call

-- the line is neither empty nor a call
pub record IsRefused (line : List ℕ) : Type 0 where
  pub some : line ≢ []
  pub none : (call : Call) → IsCall line call → ⊥

-- each line is empty or a call, and these are the calls in order
abbrev pub AreCalls : List (List ℕ) → List Call → Type 0
AreCalls [] [] = Unit {0}
AreCalls [] (call ∷ calls) = ⊥
AreCalls ([] ∷ lines) calls = AreCalls lines calls
AreCalls ((b ∷ line) ∷ lines) [] = ⊥
AreCalls ((b ∷ line) ∷ lines) (call ∷ calls) = IsCall (b ∷ line) call × AreCalls lines calls

-- line number n, from 1, is refused, and each line before it is empty or a call
pub record IsFirstRefused (lines : List (List ℕ)) (n : ℕ) : Type 0 where
  pub before : List (List ℕ)
  pub calls : List Call
  pub line : List ℕ
  pub after : List (List ℕ)
  pub all : lines ≡ before ++ line ∷ after
  pub number : n ≡ length before + 1
  pub good : AreCalls before calls
  pub bad : IsRefused line

-- what the bytes mean: a list of calls, or the number of the first line that is refused
abbrev pub CallsOf : List ℕ → Result (List Call) ℕ → Type 0
CallsOf bytes (Ok calls) = AreCalls (lines_of bytes) calls
CallsOf bytes (Err n) = IsFirstRefused (lines_of bytes) n
