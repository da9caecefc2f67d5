use Rattle.arena_rules.proofs.RoundingLemmas.{layout_power}
use Rattle.arena_rules.proofs.MoveLemmas.{shrink_moved, grow_moved}
use Rattle.arena_rules.proofs.laws.moves.moved_block.Goals as goal

pub returns : goal.returns
returns c = record {
  shrunk = λ _ _ block size align k _ valid is less fits. shrink_moved _ block _ align k _ valid is less (layout_power size align fits);
  shrink_failed = λ _ _ block size align k valid is low fits. shrink_moved _ block _ align k _ valid is low (layout_power size align fits);
  grown = λ _ _ block size align k _ valid is fits. grow_moved _ block _ align k _ valid is (layout_power size align fits);
  grow_failed = λ _ _ block size align k valid is fits. grow_moved _ block _ align k _ valid is (layout_power size align fits);
}
