use Rattle.arena_items.proofs.ArrayLemmas.{array_written, slice_of}
use Rattle.arena_items.proofs.ElementLemmas.{elements-all}
use Rattle.arena_items.proofs.typed.allocator.AllocatorArenaItems.alloc_slice_fill_copy.Goals as goal

pub returns : goal.returns
returns g c =
    let block = c.in_ok-block.block in
    let written = c.put_copies.ensures in
    slice_of _ g.T.Item _ _ _ _ block
    (array_written _ _ g.T.Item.SIZE g.T.Item.ALIGN _ block c.in_ok-block.ensures c.put_copies.new.a _ _ written.writes written.source)
    (elements-all g.T.Item.SIZE g.T.Item.decoded c.args.len _ _ _ written.push)
