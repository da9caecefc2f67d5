use Rattle.arena_kinds.proofs.Layers.{deep_stays}
use Rattle.arena_clone.proofs.laws.deep_frame_law.Goals as goal

pub returns : goal.returns
returns g c = λ old new before after v frame held apart. deep_stays g.met.T.CloneIn.lawful frame v held apart
