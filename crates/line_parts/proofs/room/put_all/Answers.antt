use Rattle.std.proofs.Common.{arith}
use Rattle.line_parts.proofs.RoomLemmas.{rooms_more, rooms_within, text_more}
use Rattle.line_parts.proofs.room.put_all.Goals as goal

pub put-requires : goal.put-requires
put-requires g c =
    let before = c.loop-i.invariant in
    omega (
      arith,
      before.len,
      before.capacity,
      c.requires,
      rooms_within g.P.Printer.room c.args.all.now c.loop-i.i c.index-all-i.result c.loop-i-test.true c.index-all-i.is,
    )

pub loop-i-preserved : goal.loop-i-preserved
loop-i-preserved g c =
    let before = c.loop-i.invariant in
    let put = c.put.ensures in
    record {
      items = text_more g.P.Printer.text c.args.out.now.items c.loop-i.out.items _ c.args.all.now c.loop-i.i c.index-all-i.result
          c.loop-i-test.true c.index-all-i.is before.items put.items;
      len = omega (
        arith,
        before.len,
        put.len,
        rooms_more g.P.Printer.room c.args.all.now c.loop-i.i c.index-all-i.result c.loop-i-test.true c.index-all-i.is,
      );
      capacity = omega (arith, before.capacity, put.capacity);
    }
