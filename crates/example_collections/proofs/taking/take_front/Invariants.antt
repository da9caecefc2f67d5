use Rattle.std.proofs.Common.{◌≡◌, take, drop}
use Rattle.arena_vec.specs.Draining.{left, SameDrain}
use Rattle.example_collections.proofs.taking.take_front.Given as goal

abbrev pub invariant-loop-place : goal.invariant-loop-place
invariant-loop-place g l = record {
  same : SameDrain g.T.Item l.initial.gone l.gone;
  rest : left g.T.Item l.gone ≡ drop l.place-index (left g.T.Item l.initial.gone);
  taken : take l.place-index l.out ≡ take l.place-index (left g.T.Item l.initial.gone);
}
