use Rattle.arena_lint.proofs.KnownLemmas.{begun, begun_knows}
use Rattle.arena_lint.proofs.StoppingLemmas.{begun_goes}
use Rattle.arena_lint.proofs.TakingLemmas.{begun_takes}
use Rattle.arena_lint.proofs.walk.enter_block.Goals as goal

pub returns : goal.returns
returns g c = record {
  moves = begun c.requires c.enter.ensures;
  knows = λ sets knows. begun_knows c.enter.result sets c.requires c.enter.ensures knows;
  takes = begun_takes c.requires c.enter.ensures;
  goes = begun_goes c.requires c.enter.ensures;
}
