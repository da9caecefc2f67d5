-- Examples of scripts, computed: their replies, needs and costs, and the lines of their outcomes.
use Rattle.std.proofs.Common.{◌≡◌, ℕ, ◌++◌, arith, Ok, refl, false, List, [], ◌∷◌, codes}
use Rattle.line_parts.specs.Numbers.{number, digits}
use Rattle.arena_rules.specs.Bits.{members}
use Rattle.arena_rules.specs.PrintedBits as bits
use Rattle.script_rules.specs.Objects.{need}
use Rattle.script_rules.specs.Effects.{effect}
use Rattle.script_rules.specs.Machine.{run, run_from, cost_of, cost_of_first}
use Rattle.script_rules.specs.Grammar.{script_lines, ScriptsOf}
use Rattle.script_rules.specs.Outcomes.{Told, lines_from}
use Rattle.script_rules.specs.declared.commands.Ended.TheVariants as ended
use Rattle.script_rules.specs.declared.commands.Command.{Command}
use Rattle.script_rules.specs.declared.commands.Command.TheVariants.{MakeList, MakeText, MakeBits, MakeMap, Push, Pop, At, Byte, SetBit, HasBit, Union, Ones, Bind, Find, Unbind, Show, CopyTo, DropName}
use Rattle.script_rules.specs.declared.commands.ScriptReply.TheVariants.{Done, Number, Nothing, Truth, Bytes, Numbers, Printed, NameTaken, WrongKind, OutOfRange, NotAscii}

-- ---- A list and a text

abbrev list_and_text : List Command
list_and_text =
    MakeList 1 ∷ Push 1 5 ∷ Push 1 6 ∷ At 1 1 ∷ At 1 2 ∷ MakeList 1 ∷ MakeText 2 ∷ Byte 2 104 ∷ Byte 2 200 ∷ Show 2 ∷ Pop 2 ∷ []

list_and_text_replies : (run list_and_text).replies
    ≡ Done ∷ Done ∷ Done ∷ Number 6 ∷ OutOfRange ∷ NameTaken ∷ Done ∷ Done ∷ NotAscii ∷ Bytes (104 ∷ []) ∷ WrongKind ∷ []
unfolding run_from effect
list_and_text_replies = refl

list_and_text_need : need (run list_and_text).objects ≡ 9
unfolding run_from effect
list_and_text_need = refl

list_and_text_costs : (run list_and_text).costs ≡ 0 ∷ 24 ∷ 24 ∷ 0 ∷ 0 ∷ 0 ∷ 32 ∷ 4 ∷ 0 ∷ 0 ∷ 0 ∷ []
unfolding run_from effect
list_and_text_costs = refl

list_and_text_cost : cost_of list_and_text ≡ 84
unfolding run_from effect
list_and_text_cost = refl

-- An arena of no bytes can serve the first command alone: the next one costs.
first_cost : cost_of_first 1 list_and_text ≡ 0
unfolding run_from effect
first_cost = refl

first_two_cost : cost_of_first 2 list_and_text ≡ 24
unfolding run_from effect
first_two_cost = refl

list_and_text_lines : script_lines list_and_text
    ≡ codes "script" ∷ codes "list 1" ∷ codes "push 1 5" ∷ codes "push 1 6" ∷ codes "at 1 1" ∷ codes "at 1 2" ∷ codes "list 1"
    ∷ codes "text 2" ∷ codes "byte 2 104" ∷ codes "byte 2 200" ∷ codes "show 2" ∷ codes "pop 2" ∷ []
unfolding number digits
list_and_text_lines = refl

-- its printed outcome where it ended done
abbrev list_and_text_done : Told
list_and_text_done = record { replies = (run list_and_text).replies; ended = ended.Done }

abbrev list_and_text_answers : List (List ℕ)
list_and_text_answers =
    codes "done" ∷ codes "done" ∷ codes "done" ∷ codes "number 6" ∷ codes "out of range" ∷ codes "name taken" ∷ codes "done" ∷ codes "done"
    ∷ codes "not ascii" ∷ codes "bytes 68" ∷ codes "wrong kind" ∷ codes "ended done" ∷ []

twice : lines_from 0 (list_and_text_done ∷ list_and_text_done ∷ [])
    ≡ (codes "script 0" ∷ list_and_text_answers) ++ (codes "script 1" ∷ list_and_text_answers)
unfolding run_from effect number digits
twice = refl

full : lines_from 0 (record { replies = Done ∷ []; ended = ended.Full } ∷ []) ≡ codes "script 0" ∷ codes "done" ∷ codes "ended full" ∷ []
unfolding number digits
full = refl

-- ---- Bits and a map

abbrev bits_and_map : List Command
bits_and_map =
    MakeBits 0 65 ∷ SetBit 0 0 ∷ SetBit 0 64 ∷ Ones 0 ∷ Show 0 ∷ SetBit 0 128 ∷ MakeBits 1 1 ∷ Union 1 0 ∷ Ones 1 ∷ HasBit 1 64
    ∷ MakeMap 2 ∷ Bind 2 9 1 ∷ Bind 2 9 4 ∷ Find 2 8 ∷ Show 2 ∷ CopyTo 2 3 ∷ Unbind 2 9 ∷ Show 3 ∷ []

bits_and_map_replies : (run bits_and_map).replies
    ≡ Done ∷ Done ∷ Done ∷ Numbers (0 ∷ 64 ∷ [])
    ∷ Printed (codes "00000001_00000000_00000000_00000000_00000000_00000000_00000000_00000000_00000001")
    ∷ OutOfRange ∷ Done ∷ Done ∷ Numbers (0 ∷ []) ∷ Truth false ∷ Done ∷ Nothing ∷ Number 1 ∷ Nothing ∷ Numbers
    (9 ∷ 4 ∷ []) ∷ Done ∷ Number 4 ∷ Numbers (9 ∷ 4 ∷ []) ∷ []
unfolding run_from effect members bits.highest bits.digits bits.lower bits.printed
bits_and_map_replies = refl

bits_and_map_costs : (run bits_and_map).costs ≡ 23 ∷ 0 ∷ 0 ∷ 0 ∷ 0 ∷ 0 ∷ 15 ∷ 0 ∷ 0 ∷ 0 ∷ 0 ∷ 256 ∷ 0 ∷ 0 ∷ 0 ∷ 256 ∷ 0 ∷ 0 ∷ []
unfolding run_from effect
bits_and_map_costs = refl

-- ---- A set that hardly any arena has a place for

abbrev large_set : List Command
large_set = MakeBits 0 4294967295 ∷ MakeBits 1 1 ∷ []

large_set_costs : (run large_set).costs ≡ 536870919 ∷ 15 ∷ []
unfolding run_from effect
large_set_costs = refl

large_set_need : need (run large_set).objects ≡ 536870920
unfolding run_from effect
large_set_need = refl

large_set_lines : lines_from 0 (record { replies = []; ended = ended.Refused } ∷ []) ≡ codes "script 0" ∷ codes "ended refused" ∷ []
unfolding number digits
large_set_lines = refl

-- ---- Texts

-- no numbers, no digits and no bytes are each a dash
dashes : lines_from 1 (record { replies = Numbers [] ∷ Printed [] ∷ Bytes [] ∷ []; ended = ended.OutOfMemory } ∷ [])
    ≡ codes "script 1" ∷ codes "numbers -" ∷ codes "printed -" ∷ codes "bytes -" ∷ codes "ended out of memory" ∷ []
unfolding number digits
dashes = refl

-- two scripts between empty lines, the first without a command
read_two : ScriptsOf (10 ∷ codes "script" ++ 10 ∷ codes "script" ++ 10 ∷ codes "drop 7" ++ 10 ∷ []) (Ok ([] ∷ (DropName 7 ∷ []) ∷ []))
unfolding number digits
read_two = record { fit = (tt, (((omega arith, tt), tt), tt)); text = refl }
