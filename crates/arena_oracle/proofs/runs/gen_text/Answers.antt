use Rattle.std.proofs.Common.{◌++◌, ap, refl, ◌∙◌, inl}
use Rattle.arena_calls.specs.Ends.{summary_lines}
use Rattle.arena_oracle.proofs.EndLemmas.{generated, not_generated}
use Rattle.arena_oracle.proofs.runs.gen_text.Goals as goal

pub returns-clause-ok : goal.returns-clause-ok
returns-clause-ok c =
    let ran = c.in-Ok-run_generated_within.ensures.ok in
    let lines = summary_lines ran.0 c.run_generated_within.new.arena.state in
    generated c.args.start c.args.count _ _ _ c.run_generated_within.new.arena c.new-arena.ensures ran.0 ran.1 _ ran.2 ran.3
    (c.put_summary.ensures ran.0 ran.4 ∙ ap (λ old. old ++ lines) c.in-Ok.ensures.items)

pub returns-in_default-clause-err : goal.returns-in_default-clause-err
returns-in_default-clause-err c = not_generated c.args.start c.args.count _ _ _ _ c.new-arena.ensures (inl refl)

pub returns-in_default-run_generated_within-clause-err : goal.returns-in_default-run_generated_within-clause-err
returns-in_default-run_generated_within-clause-err c =
    not_generated c.args.start c.args.count _ _ _ c.run_generated_within.new.arena c.new-arena.ensures c.in_default-run_generated_within.ensures.err
