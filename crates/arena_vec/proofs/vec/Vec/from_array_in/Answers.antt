use Rattle.std.proofs.Common.{arith, ◌+◌, length}
use Rattle.arena_items.proofs.Layers.{elements-all, wrote_same}
use Rattle.arena_vec.proofs.VecLemmas.{makes, room_of}
use Rattle.arena_vec.proofs.vec.Vec.from_array_in.Goals as goal

pub put_items-requires-clause-range : goal.put_items-requires-clause-range
put_items-requires-clause-range g c =
    let made = c.in_ok-raw.ensures in
    room_of g.T.Item c.with_capacity_in.new.a.memory (record { raw = c.in_ok-raw.raw }) (0 + length c.args.array) made.held
    (omega (arith, made.enough))

pub returns : goal.returns
returns g c =
    let put = c.put_items.ensures in
    let made = c.in_ok-raw.ensures in
    makes _ _ _ _ _ c.in_ok-raw.raw (length c.args.array) _ made made.enough (wrote_same _ _ _ _ _ put.writes put.source) put.writes.frame
    (elements-all g.T.Item.SIZE g.T.Item.decoded (length c.args.array) _ _ c.args.array put.push)
