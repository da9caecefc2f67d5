use Rattle.std.proofs.Common.{◌≡◌, ◌+◌, ◌++◌, [], ◌∷◌, length, take}
use Rattle.std.specs.List.{flat_map}
use Rattle.arena_chunks.specs.Frame.{Frame}
use Rattle.arena_items.specs.Values.{elements, bytes_of}
use Rattle.arena_items.specs.Room.{SamePlaces}
use Rattle.raw_vec.proofs.rows.put_all.Given as goal

abbrev pub invariant-loop-values : goal.invariant-loop-values
invariant-loop-values g l = record {
  end : l.end ≡ l.at + length (flat_map (λ s. s.now) (take l.values-index l.slices));
  push : elements g.T.Item.SIZE g.T.Item.decoded l.end (bytes_of l.a.memory l.block)
      ≡ elements g.T.Item.SIZE g.T.Item.decoded l.at (bytes_of l.initial.a.memory l.block) ++ flat_map (λ s. s.now)
      (take l.values-index l.slices);
  places : SamePlaces l.initial.a l.a;
  frame : Frame l.initial.a.memory l.a.memory (l.block ∷ []) (l.block ∷ []);
}
