-- What a program over calls writes to standard error.
use Rattle.std.specs.Prelude.{◌≡◌, ℕ, List, [], ◌∷◌, ◌++◌, Option, ◌⊎◌, codes}
use Rattle.arena_rules.specs.Causes.{counted}
use Rattle.line_parts.specs.Numbers.{number}
use Rattle.arena_calls.specs.Streams.{Writes, WritesPart}
use Rattle.arena_calls.specs.declared.status.Status.{Status}
use Rattle.arena_calls.specs.declared.status.Status.TheVariants.{Done, Usage, BadLine, OutOfMemory, ReadFault, WriteFault, InputTooLong}

abbrev pub line_message : ℕ → List ℕ
line_message n = codes "line " ++ (number n ++ (codes " is not understood" ++ 10 ∷ []))

-- the line that explains a status, where this is that of the words
abbrev pub message_of : List ℕ → Status → List ℕ
message_of usage Done = []
message_of usage Usage = usage
message_of usage (BadLine n) = line_message n
message_of usage OutOfMemory = codes "out of memory" ++ 10 ∷ []
message_of usage ReadFault = codes "read fault" ++ 10 ∷ []
message_of usage WriteFault = codes "write fault" ++ 10 ∷ []
message_of usage InputTooLong = codes "input too long" ++ 10 ∷ []

-- The status's line was written, or a first part of it and then writing failed once.
abbrev pub Explains : List ℕ → Status → Option (List ℕ) → ℕ → Option (List ℕ) → ℕ → Type 0
Explains usage status old before new after =
    (Writes old new (message_of usage status) × (after ≡ before))
    ⊎ (WritesPart old new (message_of usage status) × (after ≡ counted before 1))
