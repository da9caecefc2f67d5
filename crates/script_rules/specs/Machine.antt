-- The plain machine: commands on plain objects, one after another.
use Rattle.std.specs.Prelude.{ℕ, Bool, true, false, List, [], ◌∷◌, ◌++◌, take}
use Rattle.script_rules.specs.Objects.{get, bind, unbind, Objects, total}
use Rattle.script_rules.specs.Effects.{Effect, Tells, Gives, LetsGo, effect}
use Rattle.script_rules.specs.declared.commands.Command.{Command}
use Rattle.script_rules.specs.declared.commands.ScriptReply.{ScriptReply}
use Rattle.script_rules.specs.declared.commands.ScriptReply.TheVariants.{Done, Number, Nothing, Truth, Bytes, Numbers, Printed, NoSuchName, NameTaken, WrongKind, OutOfRange, NotAscii, CapacityOverflow}

-- the reply and the cost of a command, and the objects after it
pub record Answer : Type 0 where
  pub reply : ScriptReply
  pub cost : ℕ
  pub objects : Objects

abbrev pub settle : Objects → Effect → Answer
settle objects (Tells reply) = record { reply = reply; cost = 0; objects = objects }
settle objects (Gives name object reply cost) = record { reply = reply; cost = cost; objects = bind objects name object }
settle objects (LetsGo name) = record { reply = Done; cost = 0; objects = unbind objects name }

abbrev pub step : Command → Objects → Answer
step command objects = settle objects (effect command (get objects))

-- whether a reply is a refusal
abbrev pub is_refusal : ScriptReply → Bool
is_refusal Done = false
is_refusal (Number n) = false
is_refusal Nothing = false
is_refusal (Truth b) = false
is_refusal (Bytes bytes) = false
is_refusal (Numbers ns) = false
is_refusal (Printed bytes) = false
is_refusal NoSuchName = true
is_refusal NameTaken = true
is_refusal WrongKind = true
is_refusal OutOfRange = true
is_refusal NotAscii = true
is_refusal CapacityOverflow = true

-- the replies and the costs of commands, one after another, and the last objects
pub record Ran : Type 0 where
  pub replies : List ScriptReply
  pub costs : List ℕ
  pub objects : Objects

-- an answer, and then the run of the commands after it
abbrev pub answer_first : Answer → Ran → Ran
answer_first answer rest = record { replies = answer.reply ∷ rest.replies; costs = answer.cost ∷ rest.costs; objects = rest.objects }

unfoldable pub run_from : Objects → List Command → Ran
run_from objects [] = record { replies = []; costs = []; objects = objects }
run_from objects (command ∷ commands) = answer_first (step command objects) (run_from (step command objects).objects commands)

-- A script begins with no objects.
abbrev pub run : List Command → Ran
run script = run_from [] script

-- a run, continued with more commands
abbrev pub ran_on : Ran → List Command → Ran
ran_on ran commands = let more = run_from ran.objects commands in
    record { replies = ran.replies ++ more.replies; costs = ran.costs ++ more.costs; objects = more.objects }

abbrev pub sum : List ℕ → ℕ
sum ns = total (λ n. n) ns

abbrev pub cost_of : List Command → ℕ
cost_of script = sum (run script).costs

-- the cost of the first `i` commands
abbrev pub cost_of_first : ℕ → List Command → ℕ
cost_of_first i script = sum (take i (run script).costs)
