use Rattle.arena_drawing.proofs.program.run_picture.Goals as goal

pub returns : goal.returns
returns g c = (c.draw_lines-status.result, c.exit_with.ensures.code, c.draw_lines-status.ensures, c.exit_with.ensures.said)
