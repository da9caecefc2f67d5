use Rattle.std.proofs.Common.{arith, ◌+◌, ◌≤◌}
use Rattle.arena_chunks.proofs.Layers.{frame_then}
use Rattle.arena_items.proofs.Layers.{length-elements, wrote_same, same_then}
use Rattle.arena_vec.proofs.VecLemmas.{grows, same_front, room_of, inserted}
use Rattle.arena_vec.proofs.vec.Vec.insert.Goals as goal

pub returns : goal.returns
returns g c =
    let raw = c.in_ok-raw.raw in
    let n = raw.len in
    let moved = c.move_items.ensures in
    let put = c.put_item.ensures in
    let grown = c.in_ok-raw.ensures.grown in
    let more : n + 1 ≤ raw.cap = omega (arith, grown.len, c.in_ok-raw.ensures.enough) in
    let room = room_of g.T.Item c.roomy.new.a.memory (record { raw = raw }) (n + 1) grown.held more in
    let within : c.args.i ≤ n = omega (arith, grown.len, c.requires.index) in
    grows g.T.Item c.args.a.now c.roomy.new.a c.args.self.now _ c.put_item.new.a raw (n + 1) _ tt c.in_ok-raw.ensures.made grown more
    (same_then _ _ _ (wrote_same _ _ _ _ _ moved.writes moved.source) (wrote_same _ _ _ _ _ put.writes put.source))
    (frame_then _ _ _ _ _ _ moved.writes.frame put.writes.frame)
    (inserted _ _ _ _ n c.args.i c.args.value (same_front g.T.Item _ _ c.args.self.now _ raw c.requires.held grown (n + 1) (omega arith))
    (length-elements g.T.Item.SIZE g.T.Item.decoded (n + 1) _) within (moved.values (n + 1) (omega arith) (omega (arith, within)) room)
    (put.set (n + 1) (omega (arith, within)) room))
