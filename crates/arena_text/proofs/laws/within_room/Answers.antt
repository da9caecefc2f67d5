use Rattle.arena_text.proofs.TextLemmas.{stays_ok, never_refused, made_within, grown_within}
use Rattle.arena_text.proofs.laws.within_room.Goals as goal

pub returns : goal.returns
returns c = record { ok = stays_ok; never = never_refused; made = made_within; grown = grown_within }
