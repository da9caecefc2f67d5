use Rattle.std.proofs.Common.{◌++◌, ◌∷◌, [], codes, append_assoc, arith, sym, ◌∙◌}
use Rattle.line_parts.proofs.PrintingLemmas.{field_put}
use Rattle.arena_calls.proofs.replies.put_refused.Goals as goal

pub returns-clause-items : goal.returns-clause-items
returns-clause-items c =
    field_put (c.args.out.now.items ++ codes " refused") c.put.new.out.items _ c.as_bytes.result.now c.args.refused (omega arith)
    (c.put.ensures.items ∙ sym (append_assoc c.args.out.now.items (codes " refused") (32 ∷ [])))
    (c.as_bytes.ensures.value ∙ c.format.ensures.text) c.put-2.ensures.items
