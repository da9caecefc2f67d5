use Rattle.std.proofs.Common.{[]}
use Rattle.arena_chunks.proofs.Layers.{frame_then, frame_reflexive, frame_forget}
use Rattle.arena_items.proofs.laws.beside.new_law.Goals as goal

pub returns : goal.returns
returns g c = record {
  then = λ old mid new v w is moves. record {
    held = moves.held;
    frame = frame_then old mid new [] (g.V.InArena.footprint mid v) (g.V.InArena.footprint new w) is.frame moves.frame;
  };
  moves = λ old mid new u v w one two. record {
    held = two.held;
    frame = frame_then old mid new (g.V.InArena.footprint old u) (g.V.InArena.footprint mid v) (g.V.InArena.footprint new w)
        one.frame two.frame;
  };
  stays = λ memory v held. record { held = held; frame = frame_reflexive memory (g.V.InArena.footprint memory v) };
  others = λ old new v is. frame_forget old new [] (g.V.InArena.footprint new v) is.frame;
}
