use Rattle.arena_items.proofs.RoomLemmas.{grown_as, room_leaves}
use Rattle.arena_items.proofs.room.take_room.Goals as goal

pub returns-clause-takes : goal.returns-clause-takes
returns-clause-takes g c = rw c.grown.ensures (grown_as (λ b. b) c.place_or_grow.result _ c.place_or_grow.ensures)

pub returns-clause-err : goal.returns-clause-err
returns-clause-err g c = room_leaves (λ b. b) _ _ _ c.args.block c.args.cap _ _ (returns-clause-takes g c)
