use Rattle.arena_rules.proofs.DoublingLemmas.{doubling_sum, doubling_oldest, doubling_newest, doubling_emptied, doubling_kept, first_asked, alloc_doubling}
use Rattle.arena_rules.proofs.laws.chunks.doubling.Goals as goal

pub returns : goal.returns
returns c = record {
  sum = doubling_sum;
  from_oldest = doubling_oldest;
  newest = doubling_newest;
  reset_doubles = λ z state. doubling_emptied z state.chunks;
  reset_keeps = doubling_kept;
  first = first_asked;
  by_alloc = λ z state size align k outcome small double step made. alloc_doubling z state size align k outcome small double made step;
}
