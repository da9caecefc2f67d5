use Rattle.std.proofs.Common.{arith, ◌+◌, ap, ◌∙◌, ◌++◌, length}
use Rattle.arena_items.proofs.Layers.{wrote_same}
use Rattle.arena_vec.proofs.VecLemmas.{grows, same_list}
use Rattle.arena_vec.proofs.vec.Vec.extend_from_slice.Goals as goal

pub returns : goal.returns
returns g c =
    let raw = c.in_ok-raw.raw in
    let put = c.put_items.ensures in
    let grown = c.in_ok-raw.ensures.grown in
    grows _ _ _ _ _ _ _ (raw.len + length c.args.other.now) _ tt c.in_ok-raw.ensures.made grown
    (omega (arith, grown.len, c.in_ok-raw.ensures.enough)) (wrote_same _ _ _ _ _ put.writes put.source) put.writes.frame
    (put.push ∙ ap (λ xs. xs ++ c.args.other.now) (same_list _ _ _ c.args.self.now _ _ c.requires.held grown))
