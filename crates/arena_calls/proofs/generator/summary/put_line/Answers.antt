use Rattle.std.proofs.Common.{arith, ◌∙◌}
use Rattle.arena_calls.proofs.ReplyLemmas.{line_put}
use Rattle.arena_calls.proofs.generator.summary.put_line.Goals as goal

pub returns-clause-items : goal.returns-clause-items
returns-clause-items c =
    line_put c.args.out.now.items c.args.word.now _ _ _ _ c.args.n c.as_bytes.result.now
    (omega (arith, c.ranges.n.fits)) c.put.ensures.items c.put-2.ensures.items
    (c.as_bytes.ensures.value ∙ c.format.ensures.text) c.put-3.ensures.items c.put-4.ensures.items
