use Rattle.std.proofs.Common.{◌∙◌, refl, ap, arith}
use Rattle.arena_pool.specs.declared.kind.PoolKind.TheVariants.{Standard}
use Rattle.lint_reports.specs.Sources.{sources}
use Rattle.arena_lint.specs.All.{IsLintedAlone}
use Rattle.arena_program.specs.PoolEnds.{SourcesOf, text_of_linted}
use Rattle.arena_program.specs.Rendering.{joined}
use Rattle.arena_program.proofs.RunLemmas.{pieces_printed}
use Rattle.arena_program.proofs.TextLemmas.{reports_from}
use Rattle.arena_program.proofs.lint.run_sources.Goals as goal

pub returns : goal.returns
returns g c = λ arena. pieces_printed SourcesOf (IsLintedAlone _ Standard)
    (λ linted. linted.starved) text_of_linted _ _ _ _ c.print_all.result _ c.in-Ok.bytes.items c.in-Ok-sources_in.sources.items
    c.in-Ok-lint_over_pool.ensures.all c.in-Ok.ensures.all (omega (arith, c.in-Ok.ensures.kept))
    (c.in-Ok-sources_in.ensures.sources ∙ ap sources c.as_slice.ensures.value)
    (record {
      alone = c.in-Ok-lint_over_pool.ensures.alone;
      gained = rw c.in-Ok-lint_over_pool.ensures.gained at c.in-Ok-into_texts.ensures.gained;
      arena = refl;
    })
    c.in-Ok.ensures.faults
    (ap joined (c.as_slice-2.ensures.value ∙ ap (λ v. v.items) c.in-Ok-into_texts.ensures.texts) ∙ c.in-Ok-lint_over_pool.ensures.texts
    ∙ reports_from 0 c.in-Ok-lint_over_pool.ensures.all)
    c.print_all.ensures
