use Rattle.std.proofs.Common.{length, None, sym, subst}
use Rattle.arena_items.specs.Asks.{Fresh, solid, TakesBlock}
use Rattle.arena_chunks.specs.declared.allocator.text.Str.{Str}
use Rattle.tree_nodes.proofs.BuildLemmas.{name_placed}
use Rattle.tree_nodes.proofs.name.name_node.Goals as goal

pub returns-clause-asks : goal.returns-clause-asks
returns-clause-asks g c = subst (λ (s : Str). TakesBlock (Fresh (length c.args.name.now) 1) None c.args.a.now c.place_text.new.a (solid s.block)) (sym c.named.ensures.text)
    c.in_ok-text.ensures.asks

pub returns-clause-tree : goal.returns-clause-tree
returns-clause-tree g c =
    let text = c.in_ok-text.ensures in
    let node = c.named.ensures in
    name_placed _ _ _ _ _ text.held text.text text.frame node.kind node.text node.rest
