use Rattle.arena_ast.proofs.Layers.{moves_then}
use Rattle.example_parser.proofs.calls.push_term.Goals as goal

pub returns-in_err-index : goal.returns-in_err-index
returns-in_err-index g c = moves_then c.in_ok-term.ensures c.in_err-index.ensures

pub returns : goal.returns
returns g c = moves_then c.in_ok-term.ensures c.in_ok-index.ensures
