use Rattle.arena_rules.proofs.RoundingLemmas.{layout_power}
use Rattle.arena_rules.proofs.NewBlockLemmas.{is_new_block, alloc_failed}
use Rattle.arena_rules.proofs.laws.moves.new_block.Goals as goal

pub returns : goal.returns
returns c = record {
  placed = λ state new size align k p valid layout. is_new_block state size align k p new valid (layout_power size align layout);
  failed = λ state new size align k valid layout. alloc_failed state size align k new valid (layout_power size align layout);
}
