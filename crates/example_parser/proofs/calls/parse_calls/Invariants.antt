use Rattle.arena_ast.specs.Beside.{IsNew}
use Rattle.example_parser.specs.Trees.{calls_kind}
use Rattle.example_parser.proofs.calls.parse_calls.Given as goal

abbrev pub invariant-words : goal.invariant-words
invariant-words g l = record { fresh : IsNew calls_kind l.fn.a.memory l.a.memory l.calls }
