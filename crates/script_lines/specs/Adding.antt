-- Where a command is added.
use Rattle.std.specs.Prelude.{◌≡◌, List, [], ◌∷◌, ◌++◌}
use Rattle.script_rules.specs.declared.commands.Command.{Command}

-- the last script has this command added
pub record AddsLast (command : Command) (old new : List (List Command)) : Type 0 where
  pub front : List (List Command)
  pub last : List Command
  pub before : old ≡ front ++ last ∷ []
  pub after : new ≡ front ++ (last ++ command ∷ []) ∷ []
