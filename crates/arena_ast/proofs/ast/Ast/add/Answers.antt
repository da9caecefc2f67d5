use Rattle.std.proofs.Common.{refl, [], ◌∷◌, arith, length-append}
use Rattle.arena_vec.specs.Vecs.{vec_list}
use Rattle.arena_ast.specs.Rows.{NodeRefused}
use Rattle.arena_ast.proofs.CountLemmas.{list_counts}
use Rattle.arena_ast.proofs.AstLemmas.{list_length, one_node, same_nodes, nodes_moved, error_kept}
use Rattle.arena_ast.proofs.ast.Ast.add.Goals as goal

pub returns-in_err-push-clause-moves : goal.returns-in_err-push-clause-moves
returns-in_err-push-clause-moves g c =
    let tree = c.args.self.now in
    let push = c.in_err-push.ensures in
    let stays = c.frame_law.ensures _ _ (tree.nodes.raw.block ∷ []) (c.push.new.self.raw.block ∷ []) tree.names
    push.frame c.requires.held.names c.requires.held.apart in
    nodes_moved c.args.a.now.memory c.push.new.a.memory tree (same_nodes push.err.0 push.err.1 c.requires.held.nodes) push.frame
    stays.held stays.footprint stays.apart

pub returns-in_err-push-clause-counts : goal.returns-in_err-push-clause-counts
returns-in_err-push-clause-counts g c = list_counts _ _ _ _ _ _ _ _ _ _ c.in_err-push.ensures.made

pub returns : goal.returns
returns g c =
    let tree = c.args.self.now in
    let held = c.requires.held in
    let push = c.in_ok-push.ensures in
    let stays = c.frame_law.ensures _ _ (tree.nodes.raw.block ∷ []) (c.push.new.self.raw.block ∷ []) tree.names
    push.frame held.names held.apart in
    let list = vec_list g.T.Item c.args.a.now.memory tree.nodes in
    record {
      moves = nodes_moved c.args.a.now.memory c.push.new.a.memory tree
          (one_node _ _ _ held.nodes c.requires.node push.held push.list_is) push.frame stays.held stays.footprint stays.apart;
      counts = list_counts _ _ _ _ _ _ _ _ _ _ push.made;
      index = c.len-index.ensures;
      len = omega (arith, push.len, length-append list (c.args.node ∷ []), list_length g.T.Item c.args.a.now.memory tree.nodes);
      rows = λ i. record { names = stays.means i; nodes = push.list_is i };
      names = refl;
      took = push;
      refused = tt;
    }

pub returns-in_err-push-clause-refused : goal.returns-in_err-push-clause-refused
returns-in_err-push-clause-refused g c =
    error_kept (NodeRefused g.T.Item c.args.a.now c.push.new.a c.args.self.now c.args.node) _ c.from_residual.result
    c.from_residual.ensures (c.push.new.self, c.in_err-push.ensures)
