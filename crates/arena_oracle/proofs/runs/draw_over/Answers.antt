use Rattle.std.proofs.Common.{◌∙◌, ap}
use Rattle.arena_drawing.specs.Ends.{picture_of}
use Rattle.arena_oracle.proofs.EndLemmas.{pictured, stopped_after}
use Rattle.arena_oracle.proofs.runs.draw_over.Goals as goal

pub returns-in-Ok-clause-ok : goal.returns-in-Ok-clause-ok
returns-in-Ok-clause-ok c =
    let ran = c.in_ok-held.ensures.ok in
    pictured c.args.lines.now _ _ ran.0 _ _ ran.1 ran.2
    (c.in-Ok.ensures ∙ ap (picture_of c.run_lines.new.arena.state) c.as_slice.ensures.value)

pub returns-clause-err : goal.returns-clause-err
returns-clause-err c = let ran = c.in_ok-held.ensures.ok in stopped_after c.args.lines.now _ _ ran.0 _ ran.1
