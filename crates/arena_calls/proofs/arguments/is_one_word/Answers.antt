use Rattle.std.proofs.Common.{arith, ap, ◌∙◌}
use Rattle.std.specs.Str.{bytes_eq}
use Rattle.arena_calls.proofs.WordLemmas.{one_word}
use Rattle.arena_calls.proofs.arguments.is_one_word.Goals as goal

pub returns-in-len1 : goal.returns-in-len1
returns-in-len1 c =
    one_word c.args.words.now c.only-item.result c.args.word.now c.eq.result (omega arith) c.only-item.is
    (c.eq.ensures ∙ ap (λ x. bytes_eq x c.args.word.now) c.as_slice.ensures)
