use Rattle.std.proofs.Common.{arith, ◌-◌, ap, ◌∙◌, take, sym, set}
use Rattle.std.proofs.lemmas.Option.{get_or_from_slice_get}
use Rattle.arena_items.specs.Values.{bytes_of}
use Rattle.arena_items.proofs.Layers.{length-elements, elements-cut, wrote_same}
use Rattle.arena_vec.specs.Vecs.{vec_list}
use Rattle.arena_vec.proofs.VecLemmas.{becomes, room_of}
use Rattle.arena_vec.proofs.vec.Vec.swap_remove.Goals as goal

pub returns-clause-becomes : goal.returns-clause-becomes
returns-clause-becomes g c =
    let held = c.requires.held in
    let v = c.args.self.now in
    let n = v.raw.len in
    let put = c.put_item.ensures in
    let xs = vec_list g.T.Item c.args.a.now.memory v in
    let last = get_or_from_slice_get xs (n - 1) _ c.get-value.result c.get-last.ensures in
    rw (length-elements g.T.Item.SIZE g.T.Item.decoded n (bytes_of c.args.a.now.memory v.raw.block))
    (becomes g.T.Item _ _ v (n - 1) _ held (omega (arith, held.within)) (wrote_same _ _ _ _ _ put.writes put.source) put.writes.frame
    (elements-cut g.T.Item.SIZE g.T.Item.decoded (n - 1) n (bytes_of c.put_item.new.a.memory v.raw.block) (omega arith) ∙ ap (take (n - 1))
    (put.set n c.requires.index (room_of g.T.Item c.args.a.now.memory v n held held.within) ∙ ap (set xs c.args.i) (sym last))))
