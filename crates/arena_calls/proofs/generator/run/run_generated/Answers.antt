use Rattle.std.proofs.Common.{◌≡◌, ◌++◌, refl, ap, ◌∙◌}
use Rattle.call_rules.specs.Generator.{gen_calls}
use Rattle.arena_calls.specs.Streams.{Writes, WritesPart}
use Rattle.arena_calls.specs.Ends.{summary_lines}
use Rattle.arena_calls.proofs.RunLemmas.{told, gen_printed}
use Rattle.arena_calls.proofs.generator.run.run_generated.Goals as goal

pub returns : goal.returns
returns g c =
    let ran = c.in-Ok-count_replies.ensures.ok in
    let calls = gen_calls c.args.start c.args.count in
    let lines = summary_lines ran.0 c.count_replies.new.arena.state in
    let text : c.as_slice.result.now ≡ lines
    = c.as_slice.ensures.value ∙ c.put_summary.ensures ran.0 ran.3 ∙ ap (λ old. old ++ lines) c.in-Ok.ensures.items in
    λ left read_faults. gen_printed c.args.start c.args.count _ _ c.print.result c.as_slice.result.now refl refl
    (told _ _ calls summary_lines ran.0 ran.1 _ Writes ran.2 text) (told _ _ calls summary_lines ran.0 ran.1 _ WritesPart ran.2 text)
    c.print.ensures
