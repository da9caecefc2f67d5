use Rattle.std.proofs.Common.{arith, ◌≡◌, ◌+◌, ◌-◌}
use Rattle.arena_items.proofs.Layers.{wrote_same}
use Rattle.arena_vec.proofs.VecLemmas.{grows, same_list}
use Rattle.arena_vec.proofs.BulkLemmas.{cut_grows, filled}
use Rattle.arena_vec.proofs.vec.Vec.resize.Goals as goal

pub returns-then-new_len-self : goal.returns-then-new_len-self
returns-then-new_len-self g c = cut_grows g.T.Item c.args.a.now c.args.self.now c.args.new_len c.args.value c.requires.held (omega arith)

pub returns : goal.returns
returns g c =
    let v = c.args.self.now in
    let put = c.put_copies.ensures in
    let grown = c.in_ok-raw.ensures.grown in
    let all : v.raw.len + (c.args.new_len - v.raw.len) ≡ c.args.new_len = omega arith in
    grows _ _ _ _ _ _ _ c.args.new_len _ tt (rw all at c.in_ok-raw.ensures.made) (rw all at grown)
    (omega (arith, grown.len, c.in_ok-raw.ensures.enough)) (wrote_same _ _ _ _ _ put.writes put.source) put.writes.frame
    (filled g.T.Item.SIZE g.T.Item.decoded _ v.raw.len c.args.new_len c.args.value _ _ (omega arith)
    (rw grown.len at (same_list _ _ _ v _ _ c.requires.held grown)) (rw grown.len at put.push))
