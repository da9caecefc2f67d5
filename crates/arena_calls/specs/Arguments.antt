-- What words ask for.
use Rattle.std.specs.Prelude.{ℕ, List, Option, Some, None}
use Rattle.arena_calls.specs.Ends.{AsksCalls, AsksGen}
use Rattle.arena_calls.specs.declared.arguments.Command.{Command}
use Rattle.arena_calls.specs.declared.arguments.Command.TheVariants.{Calls, Gen}

-- the words ask for this command, or for none
abbrev pub IsAskedFor : List (List ℕ) → Option Command → Type 0
IsAskedFor words (Some Calls) = AsksCalls words
IsAskedFor words (Some (Gen start count)) = AsksGen words start count
IsAskedFor words None = (AsksCalls words → ⊥) × ((start count : ℕ) → AsksGen words start count → ⊥)
