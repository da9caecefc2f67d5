use Rattle.std.proofs.Common.{arith, ◌+◌, ap, ◌∙◌, ◌++◌, ◌∷◌, []}
use Rattle.arena_items.proofs.Layers.{wrote_same}
use Rattle.arena_vec.proofs.VecLemmas.{grows, same_list}
use Rattle.arena_vec.proofs.vec.Vec.push_with_room.Goals as goal

pub returns : goal.returns
returns g c =
    let raw = c.in_ok-raw.raw in
    let put = c.put_item.ensures in
    let grown = c.in_ok-raw.ensures.grown in
    grows g.T.Item c.args.a.now c.roomy.new.a c.args.self.now _ c.put_item.new.a raw (raw.len + 1) _ tt c.in_ok-raw.ensures.made grown
    (omega (arith, grown.len, c.in_ok-raw.ensures.enough, c.requires.some)) (wrote_same _ _ _ _ _ put.writes put.source) put.writes.frame
    (put.push ∙ ap (λ xs. xs ++ c.args.value ∷ []) (same_list g.T.Item _ _ c.args.self.now _ raw c.requires.held grown))
