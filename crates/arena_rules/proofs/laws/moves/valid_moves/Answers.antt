use Rattle.arena_rules.proofs.RoundingLemmas.{layout_power}
use Rattle.arena_rules.proofs.NewBlockLemmas.{alloc_valid}
use Rattle.arena_rules.proofs.ReturnLemmas.{dealloc_valid}
use Rattle.arena_rules.proofs.MoveLemmas.{shrink_valid, grow_valid}
use Rattle.arena_rules.proofs.ResetLemmas.{reset_valid}
use Rattle.arena_rules.proofs.CursorLemmas.{set_cursor_valid}
use Rattle.arena_rules.proofs.laws.moves.valid_moves.Goals as goal

pub returns : goal.returns
returns c = record {
  by_alloc = λ state size align k outcome valid layout. alloc_valid state size align k outcome valid (layout_power size align layout);
  by_dealloc = dealloc_valid;
  by_shrink = λ state block size align k _ valid used fits. shrink_valid _ block _ align k _ valid used (layout_power size align fits);
  by_grow = λ state block size align k _ valid fits. grow_valid _ block _ align k _ valid (layout_power size align fits);
  by_reset = reset_valid;
  by_set_cursor = set_cursor_valid;
}
