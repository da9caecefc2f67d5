use Rattle.std.proofs.Common.{ℕ, ◌<◌, [], ◌∷◌, ◌++◌}
use Rattle.std.proofs.lemmas.List.Elements.{All-nil, All-same}
use Rattle.arena_ast.proofs.Layers.{new_then, others_stay, below_more}
use Rattle.example_parser.proofs.parsing.parse.Goals as goal

pub tokens-init : goal.tokens-init
tokens-init g c = record {
  fresh = c.new_in-tree.ensures.fresh c.args.a.now.memory;
  stack = All-same (λ (i : ℕ). i < c.new_in-tree.result.nodes.raw.len) _ [] c.new-stack.ensures (All-nil _);
}

pub tokens-preserved : goal.tokens-preserved
tokens-preserved g c =
    let node = c.in_ok-node.ensures in
    let added = c.in_ok-index.ensures in
    let n = c.node_of.new.tree.nodes.raw.len in
    let m = c.add.new.self.nodes.raw.len in
    record {
      fresh = new_then (new_then c.tokens.invariant.fresh node.moves) added.moves;
      stack = All-same (λ (i : ℕ). i < m) c.push.new.self.items (c.node_of.new.stack.items ++ c.in_ok-index.index ∷ [])
          c.push.ensures.items (below_more n m c.node_of.new.stack.items c.in_ok-index.index node.stack added.index added.len);
    }

pub returns-in_err-node-clause-others : goal.returns-in_err-node-clause-others
returns-in_err-node-clause-others g c = others_stay (new_then c.tokens.invariant.fresh c.in_err-node.ensures.moves)

pub returns-then-is_full-clause-others : goal.returns-then-is_full-clause-others
returns-then-is_full-clause-others g c = others_stay (new_then c.tokens.invariant.fresh c.in_ok-node.ensures.moves)

pub returns-in_err-index-clause-others : goal.returns-in_err-index-clause-others
returns-in_err-index-clause-others g c =
    others_stay (new_then (new_then c.tokens.invariant.fresh c.in_ok-node.ensures.moves) c.in_err-index.ensures.moves)
