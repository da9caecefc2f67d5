use Rattle.std.proofs.Common.{arith, ◌+◌}
use Rattle.arena_chunks.proofs.Layers.{frame_then, frame_keeps_beside}
use Rattle.arena_items.proofs.Layers.{wrote_same}
use Rattle.arena_vec.proofs.VecLemmas.{grows, same_list}
use Rattle.arena_vec.proofs.BulkLemmas.{now_cut, appended}
use Rattle.arena_vec.proofs.vec.Vec.append.Goals as goal

pub returns-clause-grows : goal.returns-clause-grows
returns-clause-grows g c =
    let raw = c.in_ok-raw.raw in
    let v = c.args.self.now in
    let other = c.args.other.now in
    let put = c.copy_items.ensures in
    let grown = c.in_ok-raw.ensures.grown in
    let beside = frame_keeps_beside _ _ v.raw.block _ other.raw.block grown.frame c.requires.other.place.readable c.requires.apart in
    grows g.T.Item c.args.a.now c.roomy.new.a v _ c.copy_items.new.a raw (raw.len + other.raw.len) _ tt c.in_ok-raw.ensures.made grown
    (omega (arith, grown.len, c.in_ok-raw.ensures.enough)) (wrote_same _ _ _ _ _ put.writes put.source) put.writes.frame
    (appended g.T.Item.SIZE g.T.Item.decoded _ raw.len other.raw.len _ _ _ _ beside.bytes
    (same_list g.T.Item _ _ v _ raw c.requires.held grown) put.push)

pub returns-clause-other : goal.returns-clause-other
returns-clause-other g c =
    let other = c.args.other.now in
    let frame = frame_then _ _ _ _ _ _ c.in_ok-raw.ensures.grown.frame c.copy_items.ensures.writes.frame in
    now_cut _ _ _ _ _ 0 c.requires.other (frame_keeps_beside _ _ c.args.self.now.raw.block _ other.raw.block frame
    c.requires.other.place.readable c.requires.apart) (omega arith)
