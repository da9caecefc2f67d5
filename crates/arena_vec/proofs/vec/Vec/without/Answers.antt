use Rattle.std.proofs.Common.{arith, ◌-◌}
use Rattle.arena_items.specs.Values.{bytes_of}
use Rattle.arena_items.proofs.Layers.{wrote_same}
use Rattle.arena_vec.proofs.VecLemmas.{becomes, room_of, closed}
use Rattle.arena_vec.proofs.vec.Vec.without.Goals as goal

pub returns : goal.returns
returns g c =
    let held = c.requires.held in
    let v = c.args.self in
    let moved = c.move_items.ensures in
    let room = room_of g.T.Item c.args.a.now.memory v v.raw.len held held.within in
    becomes g.T.Item c.args.a.now c.move_items.new.a v (v.raw.len - (c.args.end - c.args.start)) _ held (omega (arith, held.within))
    (wrote_same _ _ _ _ _ moved.writes moved.source) moved.writes.frame
    (closed g.T.Item.SIZE g.T.Item.decoded v.raw.len c.args.start c.args.end (bytes_of c.args.a.now.memory v.raw.block) _
    c.requires.order c.requires.within (moved.values v.raw.len (omega arith) (omega arith) room))
