use Rattle.arena_oracle.proofs.EndLemmas.{picture_or, no_picture}
use Rattle.arena_oracle.proofs.runs.draw_text.Goals as goal

pub returns-clause-ok : goal.returns-clause-ok
returns-clause-ok c =
    picture_or c.args.lines.now _ _ _ c.draw_over.new.arena c.new-arena.ensures (λ text. text.items) c.draw_over.result c.draw_over.ensures.ok

pub returns-clause-err : goal.returns-clause-err
returns-clause-err c =
    no_picture c.args.lines.now _ _ _ c.draw_over.new.arena c.new-arena.ensures c.draw_over.result c.draw_over.ensures.err c.draw_over.ensures.undone
