use Rattle.std.proofs.Common.{ap, ◌∙◌, ◌++◌}
use Rattle.call_rules.specs.Summary.{summary_text}
use Rattle.arena_calls.proofs.generator.summary.put_summary.Goals as goal

pub returns : goal.returns
returns c = λ replies is. c.put_text.ensures ∙ ap (λ eight. c.args.out.now.items ++ summary_text eight)
    (rw (is.calls, is.placed, is.failed, is.other, is.bytes, is.byte_sum, c.used_bytes.ensures.value, c.allocated_bytes.ensures.value))
