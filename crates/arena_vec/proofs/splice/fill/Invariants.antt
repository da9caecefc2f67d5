use Rattle.std.proofs.Common.{◌≡◌}
use Rattle.std.specs.Iterator.{IsFinite}
use Rattle.arena_vec.proofs.SpliceLemmas.{IsFilling}
use Rattle.arena_vec.proofs.splice.fill.Given as goal

abbrev pub invariant-loop-k : goal.invariant-loop-k
invariant-loop-k g l = record {
  callable : g.I.Iterator.can_next l.iter;
  ends : IsFinite (g.I.Iterator.remaining l.iter);
  same : l.vec ≡ l.fn.vec;
  filling : IsFilling g.T.Item g.I.Iterator.next_gives l.fn.iter l.iter l.fn.a l.a l.fn.vec l.start l.k;
}
