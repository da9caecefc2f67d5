use Rattle.std.proofs.Common.{arith, ◌≡◌, ◌-◌, ◌*◌, ◌≤◌, length, ap, sym, ◌∙◌}
use Rattle.std.proofs.Math.Nat.{mul-le-mul_right}
use Rattle.arena_chunks.specs.Memory.{image}
use Rattle.arena_chunks.proofs.Layers.{length-bytes}
use Rattle.arena_items.specs.Values.{bytes_of}
use Rattle.arena_items.proofs.Layers.{length-elements}
use Rattle.arena_vec.specs.Vecs.{vec_list}
use Rattle.arena_vec.proofs.VecLemmas.{room_of}
use Rattle.raw_vec.proofs.Windows.{length-window, window_bytes}
use Rattle.arena_vec.proofs.into_iter.IntoIter.as_slice.Goals as goal

pub slice_bounds-result-end : goal.slice_bounds-result-end
slice_bounds-result-end g c =
    let i = c.self.inside in
    let inv = c.self.invariant in
    let memory = i.arena.now.memory in
    let room = room_of g.T.Item memory i.vec i.back inv.0 (omega (arith, inv.1, inv.0.within)) in
    let order : i.front * g.T.Item.SIZE ≤ i.back * g.T.Item.SIZE = mul-le-mul_right g.T.Item.SIZE inv.2 in
    rw (c.SIZE-size.ensures, c.read.ensures) (omega (
      arith,
      room,
      order,
      length-bytes (image memory) i.vec.raw.block.addr i.vec.raw.block.size,
    ))

pub returns-clause-list : goal.returns-clause-list
returns-clause-list g c =
    let i = c.self.inside in
    let inv = c.self.invariant in
    let memory = i.arena.now.memory in
    let bs = bytes_of memory i.vec.raw.block in
    let all = vec_list g.T.Item memory i.vec in
    let many = length-elements g.T.Item.SIZE g.T.Item.decoded i.vec.raw.len bs in
    let len : length c.args.self.now ≡ i.back - i.front = ap length (sym c.self.view_is)
    ∙ length-window all i.front i.back (omega (arith, many, inv.1)) in
    rw (c.SIZE-size.ensures, c.read.ensures, len)
    (window_bytes g.T.Item.SIZE g.T.Item.decoded i.vec.raw.len i.front i.back bs inv.2 inv.1 ∙ c.self.view_is)
