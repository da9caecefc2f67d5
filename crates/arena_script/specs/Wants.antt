-- Which commands take memory, so that it can run out.
use Rattle.std.specs.Prelude.{Bool, true, false, ◌||◌}
use Rattle.script_rules.specs.declared.commands.Command.{Command}
use Rattle.script_rules.specs.declared.commands.Command.TheVariants.{MakeList, MakeText, MakeBits, MakeMap, MakeValue, Push, Insert, Byte, Front, Append, Ones, Bind, Show, CopyTo}

-- its reply takes memory
abbrev pub tells_much : Command → Bool
tells_much (Ones name) = true
tells_much (Show name) = true
tells_much command = false

-- it gives a name to an object, or may make one larger
abbrev pub takes_room : Command → Bool
takes_room (MakeList name) = true
takes_room (MakeText name) = true
takes_room (MakeBits name capacity) = true
takes_room (MakeMap name) = true
takes_room (MakeValue name value) = true
takes_room (Push name value) = true
takes_room (Insert name at value) = true
takes_room (Byte name byte) = true
takes_room (Front name byte) = true
takes_room (Append name bytes) = true
takes_room (Bind name key value) = true
takes_room (CopyTo name other) = true
takes_room command = false

abbrev pub takes_memory : Command → Bool
takes_memory command = tells_much command || takes_room command
