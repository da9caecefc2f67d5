use Rattle.arena_chunks.proofs.Layers.{frame_reflexive, frame_then, frame_beside, frame_behind, frame_both, frame_weaken, frame_forget, frame_keeps, frame_keeps_all, empty_before, empty_after}
use Rattle.arena_chunks.proofs.laws.framing.frames.Goals as goal

pub returns : goal.returns
returns c = record {
  reflexive = frame_reflexive;
  then = frame_then;
  beside = frame_beside;
  behind = frame_behind;
  both = frame_both;
  weaken = frame_weaken;
  forget = frame_forget;
  keeps = frame_keeps;
  keeps_all = frame_keeps_all;
  empty_before = empty_before;
  empty_after = empty_after;
}
