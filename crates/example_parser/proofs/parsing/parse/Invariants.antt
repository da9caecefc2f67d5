use Rattle.arena_ast.specs.Asts.{AreBelow}
use Rattle.arena_ast.specs.Beside.{IsNew}
use Rattle.example_parser.specs.Trees.{tree_kind}
use Rattle.example_parser.proofs.parsing.parse.Given as goal

abbrev pub invariant-tokens : goal.invariant-tokens
invariant-tokens g l = record {
  fresh : IsNew tree_kind l.fn.a.memory l.a.memory l.tree;
  stack : AreBelow l.tree.nodes.raw.len l.stack.items;
}
