use Rattle.arena_ast.proofs.Layers.{moves_then}
use Rattle.example_parser.proofs.calls.term_of.Goals as goal

pub returns-in_err-number-2 : goal.returns-in_err-number-2
returns-in_err-number-2 g c = moves_then c.in_ok-from.ensures.moves c.in_err-number-2.ensures

pub returns : goal.returns
returns g c = moves_then c.in_ok-from.ensures.moves c.in_ok-number-2.ensures
