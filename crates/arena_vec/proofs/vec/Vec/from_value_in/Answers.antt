use Rattle.std.proofs.Common.{◌∷◌, []}
use Rattle.arena_items.proofs.Layers.{elements-all, wrote_same}
use Rattle.arena_vec.proofs.VecLemmas.{makes}
use Rattle.arena_vec.proofs.vec.Vec.from_value_in.Goals as goal

pub returns : goal.returns
returns g c =
    let put = c.put_item.ensures in
    let made = c.in_ok-raw.ensures in
    makes _ _ _ _ _ c.in_ok-raw.raw 1 _ made made.enough (wrote_same _ _ _ _ _ put.writes put.source) put.writes.frame
    (elements-all g.T.Item.SIZE g.T.Item.decoded 1 _ _ (c.args.value ∷ []) put.push)
