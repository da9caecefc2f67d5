use Rattle.std.proofs.Common.{arith}
use Rattle.arena_calls.proofs.WordLemmas.{gen_words}
use Rattle.arena_calls.proofs.arguments.asked_for.Goals as goal

pub returns-in_ok-calls-in-len3 : goal.returns-in_ok-calls-in-len3
returns-in_ok-calls-in-len3 c = gen_words c.args.words.now c.first-item.result c.start-item.result c.count-item.result
    c.in_ok-from-in-len3.from c.in_ok-calls-in-len3.calls (omega arith) c.first-item.is c.start-item.is c.count-item.is
    (c.is_word.ensures.0 c.if-not-is_word.false) (rw c.as_slice.ensures at c.in_ok-from-in-len3.ensures)
    (rw c.as_slice-in-len3.ensures at c.in_ok-calls-in-len3.ensures)
