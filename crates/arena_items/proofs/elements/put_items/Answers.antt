use Rattle.arena_chunks.proofs.Layers.{edits_to}
use Rattle.arena_items.proofs.ElementLemmas.{put_append}
use Rattle.arena_items.proofs.elements.put_items.Goals as goal

pub returns-clause-push : goal.returns-clause-push
returns-clause-push g c =
    let item = g.met.T.Item in
    let writes = edits_to _ _ c.args.block _ _ _ (rw c.SIZE-2.ensures at c.write_with.ensures.edits) in
    put_append g.T.Item.SIZE g.T.Item.decoded _ _ c.args.block c.args.i g.T.Item.encoded g.T.Item.is_value
    (λ v is. item.encoded_length v is c.requires.small) (λ v is. item.round_trip v is c.requires.small)
    c.args.values.now c.known_all.ensures writes c.requires.range
