use Rattle.arena_clone.proofs.AskBytesLemmas.{asks_least, asks_most, one_none}
use Rattle.arena_clone.proofs.laws.asks_law.Goals as goal

pub returns : goal.returns
returns c = record { least = asks_least; most = asks_most; refused = one_none }
