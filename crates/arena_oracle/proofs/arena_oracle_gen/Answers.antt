use Rattle.std.proofs.Common.{[]}
use Rattle.arena_oracle.specs.Answers.{GenWithin}
use Rattle.arena_oracle.proofs.ReturnLemmas.{returned}
use Rattle.arena_oracle.proofs.arena_oracle_gen.Goals as goal

pub returns-in-Ok-clause-ends : goal.returns-in-Ok-clause-ends
returns-in-Ok-clause-ends c =
    returned (GenWithin c.args.start c.args.count) [] c.args.budget c.args.refuse.now _ c.gen_text.new.chunks _ _ _ _ _ _ c.new-chunks.ensures
    c.in-Ok.ensures.ok (rw c.as_slice.ensures.value at c.return_text.ensures)

pub returns-clause-ends : goal.returns-clause-ends
returns-clause-ends c =
    returned (GenWithin c.args.start c.args.count) [] c.args.budget c.args.refuse.now _ c.gen_text.new.chunks _ _ _ _ _ _ c.new-chunks.ensures
    c.in-Err.ensures.err c.return_text-in-Err.ensures
