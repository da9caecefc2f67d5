use Rattle.arena_chunks.proofs.Layers.{grown_least, grown_most, grown_exact, grown_used, shrunk_used, stays_used, anew_least, anew_most}
use Rattle.arena_chunks.proofs.laws.used.used_by_resizing.Goals as goal

pub returns : goal.returns
returns c = record {
  grown_least = grown_least;
  grown_most = grown_most;
  grown_exact = grown_exact;
  grown = grown_used;
  shrunk = shrunk_used;
  stays = stays_used;
  anew_least = anew_least;
  anew_most = anew_most;
}
