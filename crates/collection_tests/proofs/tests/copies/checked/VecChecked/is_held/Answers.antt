use Rattle.std.proofs.Common.{arith, length, ◌≤◌}
use Rattle.arena_items.specs.Values.{bytes_of}
use Rattle.arena_items.proofs.Layers.{length-elements}
use Rattle.arena_vec.specs.Vecs.{vec_list}
use Rattle.collection_tests.proofs.HeldLemmas.{held_all}
use Rattle.collection_tests.proofs.tests.copies.checked.VecChecked.is_held.Goals as goal

pub returns : goal.returns
returns g c = λ _.
    let m = c.args.a.now.memory in
    let list = vec_list g.T.Item m c.args.self.now in
    let long = length-elements g.T.Item.SIZE g.T.Item.decoded c.args.self.now.raw.len (bytes_of m c.args.self.now.raw.block) in
    let all : length list ≤ c.loop-i.i = omega (arith, long, c.loop-i-test.false) in (
      c.is_raw_held.ensures c.if-not-is_raw_held.false,
      held_all (g.T.CloneIn.kind.is_held m) list c.loop-i.i c.loop-i.invariant all,
    )
