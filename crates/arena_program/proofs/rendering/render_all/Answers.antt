use Rattle.std.proofs.Common.{ap, length, arith}
use Rattle.std.proofs.lemmas.List.FromFn.{length-enumerate_from}
use Rattle.std.proofs.lemmas.Slice.Zip.{AllZip-long}
use Rattle.arena_program.proofs.RenderingLemmas.{printed_of}
use Rattle.arena_program.proofs.rendering.render_all.Goals as goal

pub join-requires : goal.join-requires
join-requires g c =
    let same = ap length c.as_slice.ensures.value in
    omega (arith, AllZip-long _ _ _ c.in_ok-all.ensures, length-enumerate_from 0 c.as_slice.result.now, same, c.requires.few)

pub returns : goal.returns
returns g c = printed_of g.W.Outcome.Render.text g.W.Work.terms g.K.Chunks.ChunkSource.source g.L.PoolName.kind c.args.pieces.items
    c.in_ok-all.all.items c.join.result (rw c.as_slice.ensures.value at c.in_ok-all.ensures) c.join.ensures.text c.join.ensures.starved
