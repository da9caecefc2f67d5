use Rattle.std.proofs.Common.{arith}
use Rattle.std.proofs.lemmas.Grind.{common_steps}
use Rattle.arena_drawing.proofs.ShapeLemmas.{all_shown}
use Rattle.arena_drawing.proofs.shapes.shapes_of.Goals as goal

pub returns-clause-shown : goal.returns-clause-shown
returns-clause-shown c = all_shown c.args.chunks.now c.args.held.now c.loop-name.shapes.items (grind (arith, common_steps))
