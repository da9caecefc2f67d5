use Rattle.arena_ast.proofs.Layers.{new_then, others_stay}
use Rattle.example_parser.proofs.calls.parse_calls.Goals as goal

pub words-init : goal.words-init
words-init g c = record { fresh = c.new_listed-calls.ensures.fresh c.args.a.now.memory }

pub words-preserved : goal.words-preserved
words-preserved g c = record { fresh = new_then c.words.invariant.fresh c.in_ok-push_term.ensures }

pub returns-in_err-push_term-clause-others : goal.returns-in_err-push_term-clause-others
returns-in_err-push_term-clause-others g c = others_stay (new_then c.words.invariant.fresh c.in_err-push_term.ensures)
