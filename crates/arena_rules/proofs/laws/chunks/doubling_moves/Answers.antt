use Rattle.arena_rules.proofs.DoublingLemmas.{resize_doubling, grow_doubling, shrink_doubling, dealloc_doubling, doubling_moved}
use Rattle.arena_rules.proofs.laws.chunks.doubling_moves.Goals as goal

pub returns : goal.returns
returns c = record {
  by_resize = λ z way s p size align k o small double step made. resize_doubling z way s p size align k o small double made step;
  by_grow = λ z s b size align k o small double step made. grow_doubling z s b.addr b.size b.align size align k o small double made step;
  by_shrink = λ z s b size align k o small double step is. shrink_doubling z s b.addr b.size b.align size align k o small double is step;
  by_dealloc = dealloc_doubling;
  by_set_cursor = λ z p state. doubling_moved z p state.chunks;
}
