use Rattle.arena_kinds.proofs.Layers.{placed_stays, made_stays, beside_new, all_turned}
use Rattle.arena_clone.proofs.laws.copy_law.Goals as goal

pub returns : goal.returns
returns g c = let law = g.met.T.CloneIn.lawful in record {
  copy = λ new later blocks before after meaning w made frame apart. made_stays law frame made apart;
  source = λ old new blocks v frame held. placed_stays law v frame held;
  apart = λ old new blocks v frame held. all_turned _ blocks (beside_new old new _ blocks (law.readable old v held) frame);
  ids = law.kept;
}
