use Rattle.std.proofs.Common.{rules}
use Rattle.arena_calls.proofs.StreamLemmas.{writes_more}
use Rattle.arena_calls.proofs.streams.all.write_all.Goals as goal

pub pieces-preserved : goal.pieces-preserved
pieces-preserved g c = record {
  written = writes_more _ _ _ c.args.bytes.now c.pieces.at c.in-Ok.count c.pieces.invariant.written c.in-Ok.ensures.bytes;
  within = search rules;
  no_fault = search rules;
}
