use Rattle.std.proofs.Common.{◌≡◌, ◌∙◌, []}
use Rattle.call_rules.specs.Replies.{text_of}
use Rattle.arena_calls.specs.Streams.{Writes, WritesPart}
use Rattle.arena_calls.specs.Ends.{RunsTo, reply_lines}
use Rattle.arena_calls.proofs.RunLemmas.{unwritten, told, printed}
use Rattle.arena_calls.proofs.whole_run.run_lines.Goals as goal

pub returns-in-Ok : goal.returns-in-Ok
returns-in-Ok g c =
    let ran = c.in-Ok.ensures.ok in
    let text : c.as_slice.result.now ≡ text_of ran.0 = c.as_slice.ensures.value ∙ ran.2 [] c.new-text.ensures in
    printed (λ old new calls. RunsTo old new calls reply_lines) _ _ c.print.result c.as_slice.result.now _ _ _ _ ran.1
    c.in-Ok.ensures.no_fault (told _ _ ran.1.calls reply_lines ran.0 _ _ Writes ran.1.runs text)
    (told _ _ ran.1.calls reply_lines ran.0 _ _ WritesPart ran.1.runs text) c.print.ensures

pub returns : goal.returns
returns g c = unwritten (λ old new calls. RunsTo old new calls reply_lines) _ _ c.in-Err.status (c.in-Err.ensures.err _ _)
