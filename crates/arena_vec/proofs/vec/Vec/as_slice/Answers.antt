use Rattle.std.proofs.Common.{arith, ◌*◌}
use Rattle.std.proofs.lemmas.List.{length-take}
use Rattle.arena_chunks.specs.Memory.{image}
use Rattle.arena_chunks.proofs.Layers.{length-bytes, take_bytes}
use Rattle.arena_items.specs.Values.{bytes_of}
use Rattle.arena_items.proofs.Layers.{elements-front}
use Rattle.arena_vec.proofs.VecLemmas.{room_of}
use Rattle.arena_vec.proofs.vec.Vec.as_slice.Goals as goal

pub slice_bounds-result-end : goal.slice_bounds-result-end
slice_bounds-result-end g c =
    let v = c.args.self.now in
    let room = room_of g.T.Item c.args.a.now.memory v v.raw.len c.requires.held c.requires.held.within in
    let bytes = bytes_of c.args.a.now.memory v.raw.block in
    let sized = length-bytes (image c.args.a.now.memory) v.raw.block.addr v.raw.block.size in
    rw (c.SIZE.ensures, c.read.ensures) (omega (arith, room, sized, length-take (v.raw.len * g.T.Item.SIZE) bytes))

pub returns-clause-bytes : goal.returns-clause-bytes
returns-clause-bytes g c =
    let v = c.args.self.now in
    rw (c.SIZE.ensures, c.read.ensures) (take_bytes (image c.args.a.now.memory) v.raw.block.addr v.raw.block.size
    (v.raw.len * g.T.Item.SIZE)
    (room_of g.T.Item c.args.a.now.memory v v.raw.len c.requires.held c.requires.held.within))

pub returns-clause-list : goal.returns-clause-list
returns-clause-list g c =
    let v = c.args.self.now in
    rw (c.SIZE.ensures, c.read.ensures) (elements-front g.T.Item.SIZE g.T.Item.decoded v.raw.len (bytes_of c.args.a.now.memory v.raw.block))
