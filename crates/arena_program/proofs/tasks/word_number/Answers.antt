use Rattle.std.proofs.Common.{arith, sym, ◌∙◌}
use Rattle.arena_program.proofs.TaskLemmas.{number_low, number_here}
use Rattle.arena_program.proofs.tasks.word_number.Goals as goal

pub returns-then-n-least : goal.returns-then-n-least
returns-then-n-least c =
    number_low c.args.least c.args.most c.args.words.now c.in_ok-first.first.now c.in_ok-first.rest.now c.in_ok-n.n
    c.in_ok-first.ensures.cases.0 (sym c.as_slice.ensures ∙ c.in_ok-n.ensures.1) c.if-n-least.true

pub returns : goal.returns
returns c =
    number_here c.args.least c.args.most c.args.words.now c.in_ok-first.first.now c.in_ok-first.rest.now c.in_ok-n.n
    c.in_ok-first.ensures.cases.0 (sym c.as_slice.ensures ∙ c.in_ok-n.ensures.1) (omega (arith, c.if-n-least.false)) c.in_ok-n.ensures.0
