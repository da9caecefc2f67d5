-- A worked script.
use Rattle.std.specs.Prelude.{List, [], ◌∷◌}
use Rattle.script_rules.specs.declared.commands.Command.{Command}
use Rattle.script_rules.specs.declared.commands.Command.TheVariants.{MakeList, MakeText, Push, Pop, At, Byte, Show}

-- a list of two numbers and a text of one byte, with some commands that are refused
abbrev pub worked : List Command
worked =
    MakeList 1 ∷ Push 1 5 ∷ Push 1 6 ∷ At 1 1 ∷ At 1 2 ∷ MakeList 1
    ∷ MakeText 2 ∷ Byte 2 104 ∷ Byte 2 200 ∷ Show 2 ∷ Pop 2 ∷ []
