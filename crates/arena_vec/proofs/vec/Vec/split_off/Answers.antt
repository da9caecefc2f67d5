use Rattle.std.proofs.Common.{◌-◌, [], ◌∷◌}
use Rattle.arena_chunks.proofs.Layers.{frame_then, frame_keeps_new}
use Rattle.arena_items.proofs.Layers.{wrote_same}
use Rattle.arena_vec.proofs.VecLemmas.{makes}
use Rattle.arena_vec.proofs.BulkLemmas.{now_cut, split}
use Rattle.arena_vec.proofs.vec.Vec.split_off.Goals as goal

pub returns-clause-makes : goal.returns-clause-makes
returns-clause-makes g c =
    let v = c.args.self.now in
    let n = v.raw.len - c.args.at in
    let put = c.copy_items.ensures in
    let made = c.in_ok-raw.ensures in
    let kept = frame_keeps_new _ _ _ v.raw.block made.frame c.requires.held.place.readable in
    makes _ _ _ _ _ c.in_ok-raw.raw n _ made made.enough (wrote_same _ _ _ _ _ put.writes put.source) put.writes.frame
    (split g.T.Item.SIZE g.T.Item.decoded c.args.at v.raw.len _ _ _ _ c.requires.index kept.bytes put.push)

pub returns-clause-first : goal.returns-clause-first
returns-clause-first g c =
    let v = c.args.self.now in
    let frame = frame_then _ _ _ [] (c.in_ok-raw.raw.block ∷ []) _ c.in_ok-raw.ensures.frame c.copy_items.ensures.writes.frame in
    now_cut _ _ _ _ _ c.args.at c.requires.held (frame_keeps_new _ _ _ v.raw.block frame c.requires.held.place.readable) c.requires.index
