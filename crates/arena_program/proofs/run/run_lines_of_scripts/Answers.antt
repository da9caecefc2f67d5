use Rattle.std.proofs.Common.{◌∙◌, refl, ap, arith}
use Rattle.script_rules.specs.Grammar.{ScriptsOf}
use Rattle.script_workers.specs.Serving.{IsServedAlone}
use Rattle.arena_program.specs.PoolEnds.{kind_of, text_of_served}
use Rattle.arena_program.specs.Rendering.{joined}
use Rattle.arena_program.proofs.RunLemmas.{pieces_printed}
use Rattle.arena_program.proofs.TextLemmas.{scripts_from}
use Rattle.arena_program.proofs.run.run_lines_of_scripts.Goals as goal

pub returns : goal.returns
returns g c = λ arena. pieces_printed ScriptsOf (IsServedAlone _ (kind_of c.args.task.lender) _)
    (λ served. served.starved) text_of_served _ _ _ _ c.print_all.result _ c.in-Ok.bytes.items c.in-Ok-parse_on_workers.scripts.items
    c.in-Ok-run_task.ensures.all c.in-Ok.ensures.all (omega (arith, c.in-Ok.ensures.kept))
    (rw c.as_slice.ensures.value at c.in-Ok-parse_on_workers.ensures.scripts)
    (record {
      alone = c.in-Ok-run_task.ensures.alone;
      gained = rw c.in-Ok-run_task.ensures.gained at c.in-Ok-into_texts.ensures.gained;
      arena = refl;
    })
    c.in-Ok.ensures.faults
    (ap joined (c.as_slice-2.ensures.value ∙ ap (λ v. v.items) c.in-Ok-into_texts.ensures.texts) ∙ c.in-Ok-run_task.ensures.texts
    ∙ scripts_from 0 c.in-Ok-run_task.ensures.all)
    c.print_all.ensures
