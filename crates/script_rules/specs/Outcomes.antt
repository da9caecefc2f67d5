-- The lines of the outcomes of scripts.
use Rattle.std.specs.Prelude.{◌≢◌, ℕ, ◌+◌, true, false, List, [], ◌∷◌, ◌++◌, map, codes}
use Rattle.std.specs.List.{flat_map, AllByRecursion}
use Rattle.line_parts.specs.Numbers.{fields, hex, IsByte, with_feed}
use Rattle.script_rules.specs.declared.commands.Ended.{Ended}
use Rattle.script_rules.specs.declared.commands.Ended.TheVariants as ended
use Rattle.script_rules.specs.declared.commands.ScriptReply.{ScriptReply}
use Rattle.script_rules.specs.declared.commands.ScriptReply.TheVariants.{Done, Number, Nothing, Truth, Bytes, Numbers, Printed, NoSuchName, NameTaken, WrongKind, OutOfRange, NotAscii, CapacityOverflow}
use Rattle.script_rules.specs.declared.outcome.Outcome.{Outcome}

-- the fields of a list, or a dash for none
abbrev pub fields_or_dash : List ℕ → List ℕ
fields_or_dash [] = codes " -"
fields_or_dash (n ∷ ns) = fields (n ∷ ns)

abbrev pub text_or_dash : List ℕ → List ℕ
text_or_dash [] = codes "-"
text_or_dash (b ∷ bytes) = b ∷ bytes

-- a line without its line feed
abbrev pub reply_line : ScriptReply → List ℕ
reply_line Done = codes "done"
reply_line (Number n) = codes "number" ++ fields (n ∷ [])
reply_line Nothing = codes "nothing"
reply_line (Truth true) = codes "true"
reply_line (Truth false) = codes "false"
reply_line (Bytes bytes) = codes "bytes " ++ hex bytes
reply_line (Numbers ns) = codes "numbers" ++ fields_or_dash ns
reply_line (Printed bytes) = codes "printed " ++ text_or_dash bytes
reply_line NoSuchName = codes "no such name"
reply_line NameTaken = codes "name taken"
reply_line WrongKind = codes "wrong kind"
reply_line OutOfRange = codes "out of range"
reply_line NotAscii = codes "not ascii"
reply_line CapacityOverflow = codes "capacity overflow"

abbrev pub ended_line : Ended → List ℕ
ended_line ended.Done = codes "ended done"
ended_line ended.Full = codes "ended full"
ended_line ended.Refused = codes "ended refused"
ended_line ended.OutOfMemory = codes "ended out of memory"

-- The printed part of an outcome: not the bytes used, since those depend on the arena.
pub record Told : Type 0 where
  pub replies : List ScriptReply
  pub ended : Ended

abbrev pub told : Outcome → Told
told outcome = record { replies = outcome.replies; ended = outcome.ended }

-- the lines of script number i
abbrev pub outcome_lines : ℕ → Told → List (List ℕ)
outcome_lines i outcome = (codes "script" ++ fields (i ∷ [])) ∷ map reply_line outcome.replies ++ ended_line outcome.ended ∷ []

-- the lines of outcomes, the first of which has this number
abbrev pub lines_from : ℕ → List Told → List (List ℕ)
lines_from i [] = []
lines_from i (outcome ∷ outcomes) = outcome_lines i outcome ++ lines_from (i + 1) outcomes

abbrev pub text_of_outcomes : List Outcome → List ℕ
text_of_outcomes outcomes = flat_map with_feed (lines_from 0 (map told outcomes))

-- neither a line feed nor a dash
abbrev pub IsPrintedByte : ℕ → Type 0
IsPrintedByte b = (b ≢ 10) × (b ≢ 45)

-- a reply's bytes are from 0 to 255, and a printed form has neither a line feed nor a dash
abbrev pub HasBytes : ScriptReply → Type 0
HasBytes (Bytes bytes) = AllByRecursion IsByte bytes
HasBytes (Printed bytes) = AllByRecursion IsPrintedByte bytes
HasBytes Done = Unit {0}
HasBytes (Number n) = Unit {0}
HasBytes Nothing = Unit {0}
HasBytes (Truth b) = Unit {0}
HasBytes (Numbers ns) = Unit {0}
HasBytes NoSuchName = Unit {0}
HasBytes NameTaken = Unit {0}
HasBytes WrongKind = Unit {0}
HasBytes OutOfRange = Unit {0}
HasBytes NotAscii = Unit {0}
HasBytes CapacityOverflow = Unit {0}

abbrev pub HaveBytes : Outcome → Type 0
HaveBytes outcome = AllByRecursion HasBytes outcome.replies
