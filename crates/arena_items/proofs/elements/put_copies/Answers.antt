use Rattle.std.proofs.Common.{◌≡◌, length, replicate}
use Rattle.std.proofs.lemmas.List.{length-replicate}
use Rattle.std.proofs.lemmas.List.Elements.{All-replicate}
use Rattle.arena_chunks.proofs.Layers.{edits_to}
use Rattle.arena_items.proofs.ElementLemmas.{put_append}
use Rattle.arena_items.proofs.elements.put_copies.Goals as goal

pub returns-clause-push : goal.returns-clause-push
returns-clause-push g c =
    let item = g.met.T.Item in
    let writes = edits_to _ _ c.args.block _ _ _ (rw c.SIZE-2.ensures at c.write_with.ensures.edits) in
    let values = replicate c.args.times c.args.value in
    let many : length values ≡ c.args.times = length-replicate c.args.times c.args.value in
    rw many at (put_append g.T.Item.SIZE g.T.Item.decoded _ _ c.args.block c.args.i g.T.Item.encoded g.T.Item.is_value
    (λ v is. item.encoded_length v is c.requires.small) (λ v is. item.round_trip v is c.requires.small)
    values (All-replicate g.T.Item.is_value c.args.times c.args.value c.known.ensures) writes (rw many c.requires.range))
