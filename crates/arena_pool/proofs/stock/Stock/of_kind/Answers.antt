use Rattle.std.proofs.Common.{arith}
use Rattle.arena_pool.proofs.StackLemmas.{one_more}
use Rattle.arena_pool.proofs.stock.Stock.of_kind.Goals as goal

pub loop-i-preserved : goal.loop-i-preserved
loop-i-preserved g c =
    let e = c.in_ok-arena.ensures in record {
      length = omega arith;
      room = omega arith;
      first = rw (c.push_reserved.ensures.items, c.first_id.ensures)
          (one_more c.args.kind c.args.limit c.loop-i.i _ _ c.requires.limit c.loop-i.invariant.first e.new e.unused);
    }
