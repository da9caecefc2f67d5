-- What commands on things of any kind report.
use Rattle.std.proofs.Common.{◌≡◌, ℕ, ap, sym, length}
use Rattle.arena_chunks.specs.Memory.{Memory}
use Rattle.arena_text.specs.Builders.{builder_bytes}
use Rattle.arena_text.specs.declared.text.StringBuilder.{StringBuilder}
use Rattle.script_rules.specs.Effects.{Tells, effect}
use Rattle.script_rules.specs.declared.commands.Command.TheVariants.{Len}
use Rattle.script_rules.specs.declared.commands.ScriptReply.TheVariants.{Number}
use Rattle.arena_script.specs.declared.thing.Thing.TheVariants as thing
use Rattle.arena_script.specs.Things.{Things, seen}
use Rattle.arena_script.proofs.ThingLemmas.{Holds}

pub text_len : {m : Memory} {things : Things} {name : ℕ} {t : StringBuilder} → Holds things m name (thing.Text t)
    → t.len ≡ length (builder_bytes m t) → effect (Len name) (seen m things) ≡ Tells (Number t.len)
unfolding effect
text_len h count = rw h.found (ap (λ n. Tells (Number n)) (sym count))
