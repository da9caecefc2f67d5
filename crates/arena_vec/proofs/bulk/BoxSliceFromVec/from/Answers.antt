use Rattle.std.proofs.Common.{arith, refl}
use Rattle.arena_vec.proofs.VecLemmas.{whole_bytes, slice_held, slice_same}
use Rattle.arena_vec.proofs.bulk.BoxSliceFromVec.from.Goals as goal

pub returns : goal.returns
returns g c =
    let v = c.args.vec in
    let item = g.T.Item in (
      refl,
      λ small. rw (c.SIZE.ensures, whole_bytes v.raw.len item.SIZE (omega arith) small) refl,
      λ small memory held. rw (c.SIZE.ensures, whole_bytes v.raw.len item.SIZE (omega arith) small)
          (slice_held item memory v held, slice_same item memory v held),
    )
