use Rattle.std.proofs.Common.{arith, ◌+◌, ◌≤◌, take, drop, ◌∙◌, []}
use Rattle.std.proofs.lemmas.List.{length-take, length-drop}
use Rattle.std.proofs.lemmas.Result.{err_from_is_err_and}
use Rattle.arena_items.specs.Values.{bytes_of}
use Rattle.arena_items.proofs.Layers.{length-elements, wrote_same}
use Rattle.raw_vec.specs.Held.{raw_values}
use Rattle.arena_vec.proofs.VecLemmas.{grows, refused, same_front, room_of}
use Rattle.arena_vec.proofs.SpliceLemmas.{widened}
use Rattle.arena_vec.proofs.splice.widen.Goals as goal

pub returns-in_err-raw : goal.returns-in_err-raw
returns-in_err-raw g c =
    let p = err_from_is_err_and c.from_residual.result c.from_residual.ensures.1 in
    rw (p.1, p.2) (record {
      values = [];
      many = tt;
      grows = refused _ _ _ _ _ _ c.in_err-raw.field-0.0 c.requires.held c.in_err-raw.ensures.made c.in_err-raw.ensures.err;
    })

pub returns : goal.returns
returns g c =
    let item = g.T.Item in
    let v = c.args.vec.now in
    let raw = c.in_ok-raw.raw in
    let at = c.args.at in
    let n = c.args.n in
    let moved = c.move_items.ensures in
    let grown = c.in_ok-raw.ensures.grown in
    let xs = raw_values item c.roomy.new.a.memory raw (raw.len + n) in
    let long = length-elements item.SIZE item.decoded (raw.len + n) (bytes_of c.roomy.new.a.memory raw.block) in
    let more : raw.len + n ≤ raw.cap = omega (arith, grown.len, c.in_ok-raw.ensures.enough) in
    let within : at ≤ raw.len = omega (arith, grown.len, c.requires.index) in
    let room = room_of item c.roomy.new.a.memory (record { raw = raw }) (raw.len + n) grown.held more in
    let values = moved.values (raw.len + n) (omega (arith, within)) (omega (arith, within)) room in
    record {
      values = take n (drop at xs);
      many = omega (arith, long, within, length-take n (drop at xs), length-drop at xs);
      grows = grows item c.args.a.now c.roomy.new.a v _ c.move_items.new.a raw (raw.len + n) _ tt c.in_ok-raw.ensures.made grown more
          (wrote_same _ _ _ _ _ moved.writes moved.source) moved.writes.frame
          (values ∙ widened xs _ raw.len at n (same_front item _ _ v _ raw c.requires.held grown (raw.len + n) (omega arith)) long within);
    }
