use Rattle.std.proofs.Common.{[], ◌∷◌}
use Rattle.arena_chunks.specs.Frame.{Frame}
use Rattle.arena_vec.specs.Vecs.{IsVecIn}
use Rattle.arena_vec.proofs.ExtendLemmas.{IsExtending}
use Rattle.arena_vec.proofs.vec.Vec.extend.Given as goal

abbrev pub invariant-loop-value : goal.invariant-loop-value
invariant-loop-value g l = record {
  held : IsVecIn g.T.Item l.a.memory l.self;
  frame : Frame l.fn.a.memory l.a.memory (l.fn.self.raw.block ∷ []) (l.self.raw.block ∷ []);
  extending : IsExtending g.T.Item g.I.Iterator.next_gives g.I.Iterator.remaining l.fn.iter l.iter l.fn.a l.a l.fn.self l.self;
}
