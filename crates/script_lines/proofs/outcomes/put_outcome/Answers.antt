use Rattle.std.proofs.Common.{ap, ◌∙◌, ◌++◌, codes}
use Rattle.script_rules.specs.Outcomes.{told}
use Rattle.script_lines.proofs.OutcomeLemmas.{outcome_put}
use Rattle.script_lines.proofs.outcomes.put_outcome.Goals as goal

pub returns-clause-ok : goal.returns-clause-ok
returns-clause-ok c =
    outcome_put c.args.out.now.items c.put.new.out.items c.put_field.new.out.items c.put-2.new.out.items c.put_all.new.out.items
    _ c.args.i (told c.args.outcome.now)
    (c.put.ensures.items ∙ ap (λ xs. xs ++ codes "script") c.in_ok-make_room.ensures.same) c.put_field.ensures.items c.put-2.ensures.items
    (rw c.as_slice-replies.ensures at c.put_all.ensures.items) c.put_ended.ensures.items
