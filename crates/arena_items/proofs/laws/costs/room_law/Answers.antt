use Rattle.arena_items.proofs.CostLemmas.{taken_brings, taken_refused, same_used, room_brings, room_refused_as, room_costs}
use Rattle.arena_items.proofs.laws.costs.room_law.Goals as goal

pub returns : goal.returns
returns g c = record {
  taken = λ old new block b cap size align one layout same more. taken_brings old new block cap size align one layout same b more;
  not_taken = λ old new block cap size align f e one layout same. taken_refused old new block cap size align one layout same f e;
  stays = λ old new block size align cap f result made. same_used old new made.1;
  grows = λ old new block size align cap more f x one held layout. room_brings old new block size align cap f more one held layout x;
  refused = λ old new block size align cap more f e one held layout. room_refused_as old new block size align cap f more one held layout e;
  costs = λ old new block size align cap more f bytes before after result one held.
      room_costs old new block size align cap more f bytes before after one held result;
}
