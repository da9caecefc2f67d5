-- The program's own types in the definitions' terms.
use Rattle.script_rules.specs.Objects.{Objects}
use Rattle.script_rules.specs.Effects.{Effect, Tells, Gives, LetsGo}
use Rattle.script_rules.specs.Machine.{Answer, Ran}
use Rattle.plain_scripts.specs.declared.effect.PlainEffect.{PlainEffect}
use Rattle.plain_scripts.specs.declared.effect.PlainEffect.TheVariants as plain
use Rattle.plain_scripts.specs.declared.machine.Answered.{Answered}
use Rattle.plain_scripts.specs.declared.run.PlainRun.{PlainRun}

abbrev pub effect_of : PlainEffect → Effect
effect_of (plain.Tells reply) = Tells reply
effect_of (plain.Gives name object reply cost) = Gives name object reply cost
effect_of (plain.LetsGo name) = LetsGo name

-- an answer, with the objects after it
abbrev pub gives : Objects → Answered → Answer
gives objects a = record { reply = a.reply; cost = a.cost; objects = objects }

-- the answers of a run, with the objects after it
abbrev pub gives_all : Objects → PlainRun → Ran
gives_all objects run = record { replies = run.replies; costs = run.costs.items; objects = objects }
