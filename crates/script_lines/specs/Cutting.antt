-- Texts that are cut in two, and what is read of both parts.
use Rattle.std.specs.Prelude.{ℕ, ◌+◌, List, [], ◌∷◌, ◌++◌, codes, Result, Ok, Err, Vec}
use Rattle.std.specs.Global.{Global}
use Rattle.memchr.specs.Find.{OccursAt}
use Rattle.line_parts.specs.Lines.{IsCause}
use Rattle.line_parts.specs.declared.lines.LinesErr.{LinesErr}
use Rattle.script_rules.specs.Grammar.{ScriptsOf}
use Rattle.script_rules.specs.declared.commands.Command.{Command}
use Rattle.script_rules.specs.declared.script.Script.{Script}

-- a line that is exactly `script`, between two line feeds
abbrev pub script_mark : List ℕ
script_mark = 10 ∷ codes "script" ++ 10 ∷ []

-- The text can be cut at this line feed: the next line is exactly `script`.
abbrev pub IsCutAt : List ℕ → ℕ → Type 0
IsCutAt bytes at = OccursAt bytes script_mark at

-- The bytes are the lines of these scripts, or are refused for this cause.
abbrev pub IsReadOf : List ℕ → Result (Vec Script Global) LinesErr → Type 0
IsReadOf bytes (Ok scripts) = ScriptsOf bytes (Ok scripts.items)
IsReadOf bytes (Err cause) = IsCause (λ n. ScriptsOf bytes (Err n)) cause

-- The readings of both parts put together: the scripts of both, or the first refused line of the first part that has
-- one. The lines of the second part are counted after those of the first.
abbrev pub together : ℕ → Result (List (List Command)) ℕ → Result (List (List Command)) ℕ → Result (List (List Command)) ℕ
together lines (Err n) rest = Err n
together lines (Ok scripts) (Ok more) = Ok (scripts ++ more)
together lines (Ok scripts) (Err n) = Err (lines + n)
