use Rattle.arena_symbols.proofs.Layers.{scopes_moved}
use Rattle.arena_lint.proofs.KnownLemmas.{ended_knows}
use Rattle.arena_lint.proofs.StoppingLemmas.{ended_goes}
use Rattle.arena_lint.proofs.TakingLemmas.{ended_takes}
use Rattle.arena_lint.proofs.walk.leave_block.Goals as goal

pub returns : goal.returns
returns g c = record {
  moves = (scopes_moved c.requires _ c.leave.ensures.held c.leave.ensures.frame).0;
  leaves = λ names sets knows some. ended_knows names sets c.requires c.leave.ensures knows some;
  takes = ended_takes c.requires c.leave.ensures;
  goes = ended_goes _ c.requires c.leave.ensures;
}
