use Rattle.std.proofs.Common.{◌≡◌, ◌+◌, ◌≤◌, [], ◌∷◌, ◌++◌}
use Rattle.std.specs.Prelude.{replicate}
use Rattle.arena_chunks.specs.Frame.{Frame}
use Rattle.arena_vec.specs.Vecs.{IsVecIn, vec_list}
use Rattle.example_collections.proofs.PushingLemmas.{CostsAtMost}
use Rattle.example_collections.proofs.pushing.push_copies.Given as goal

abbrev pub invariant-copies : goal.invariant-copies
invariant-copies g l = record {
  held : IsVecIn g.T.Item l.a.memory l.vec;
  list : vec_list g.T.Item l.a.memory l.vec ≡ vec_list g.T.Item l.fn.a.memory l.fn.vec ++ replicate l.counter l.value;
  frame : Frame l.fn.a.memory l.a.memory (l.fn.vec.raw.block ∷ []) (l.vec.raw.block ∷ []);
  len : l.vec.raw.len ≡ l.fn.vec.raw.len + l.counter;
  cap : l.fn.vec.raw.cap ≤ l.vec.raw.cap;
  asks : CostsAtMost g.T.Item l.value l.counter l.fn.a l.a l.fn.vec l.vec;
}
