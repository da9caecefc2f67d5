use Rattle.arena_chunks.proofs.Layers.{asks_placed, asks_resized, asks_given_back, asks_same}
use Rattle.arena_chunks.proofs.laws.asking.asks.Goals as goal

pub returns : goal.returns
returns c = record {
  placed = asks_placed;
  resized = λ bytes way old new block size align answer layout small fits.
      asks_resized bytes old new block size align layout small fits way answer;
  given_back = asks_given_back;
  nothing = asks_same;
}
