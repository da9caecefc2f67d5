use Rattle.std.proofs.Common.{sym, ◌∙◌}
use Rattle.arena_chunks.proofs.Layers.{edits_to}
use Rattle.arena_items.proofs.PlacingLemmas.{wrote_value}
use Rattle.arena_items.proofs.elements.write_whole.Goals as goal

pub returns-clause-value : goal.returns-clause-value
returns-clause-value g c =
    let item = g.met.T.Item in
    let writes = edits_to _ _ c.args.block _ _ _ c.write_with.ensures.edits in
    let long = item.encoded_length c.args.value c.known.ensures c.requires.small in
    wrote_value _ _ c.args.block g.T.Item.encoded g.T.Item.decoded c.args.value writes (long ∙ sym c.requires.held.of_size)
    (item.round_trip c.args.value c.known.ensures c.requires.small)
