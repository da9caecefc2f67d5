-- How many scripts bytes can have.
use Rattle.std.proofs.Common.{ℕ, ◌+◌, ◌≤◌, List, [], ◌∷◌, length, map, ap, arith, length-append}
use Rattle.std.specs.Prelude.{◌==◌, Ok}
use Rattle.std.specs.List.{flat_map}
use Rattle.std.proofs.lemmas.List.Splits.{length-slice_split}
use Rattle.std.proofs.lemmas.List.Sums.{count_by-le-length}
use Rattle.line_parts.specs.Numbers.{lines_of}
use Rattle.script_rules.specs.Grammar.{command_line, script_lines, is_some_line, ScriptsOf}
use Rattle.script_rules.specs.declared.commands.Command.{Command}
use Rattle.script_rules.proofs.EntryLemmas.{length_filter}

pub lines_few : (bytes : List ℕ) → length (lines_of bytes) ≤ length bytes + 1
lines_few bytes = omega (arith, length-slice_split (λ x. x == 10) bytes, count_by-le-length (λ x. x == 10) bytes)

scripts_few : (scripts : List (List Command)) → length scripts ≤ length (flat_map script_lines scripts)
scripts_few [] = omega arith
scripts_few (script ∷ scripts) = omega (arith, scripts_few scripts, length-append (map command_line script) (flat_map script_lines scripts))

-- a script has a line, and a line after the first has a line feed
pub few : (bytes : List ℕ) (scripts : List (List Command)) → ScriptsOf bytes (Ok scripts) → length scripts ≤ length bytes + 1
few bytes scripts are = omega (arith, scripts_few scripts, ap length are.text, length_filter is_some_line (lines_of bytes), lines_few bytes)
