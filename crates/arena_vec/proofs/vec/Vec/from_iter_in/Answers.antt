use Rattle.arena_vec.proofs.vec.Vec.from_iter_in.Goals as goal

pub returns-clause-builds : goal.returns-clause-builds
returns-clause-builds g c = record {
  least = c.size_hint-least.result.0;
  most = c.size_hint-least.result.1;
  lower = c.size_hint-least.ensures.lower;
  upper = c.size_hint-least.ensures.upper;
  builds = rw (c.room_at_first-room.ensures, c.SIZE.ensures) at c.from_iter_with_room_in.ensures.builds;
}
