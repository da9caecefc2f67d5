use Rattle.std.proofs.Common.{◌∙◌}
use Rattle.line_parts.proofs.PrintingLemmas.{field_put}
use Rattle.line_parts.proofs.printing.put_field.Goals as goal

pub returns-clause-items : goal.returns-clause-items
returns-clause-items c =
    field_put c.args.out.now.items c.put.new.out.items _ c.as_bytes.result.now c.args.n c.ranges.n.fits c.put.ensures.items
    (c.as_bytes.ensures.value ∙ c.format.ensures.text) c.put-2.ensures.items
