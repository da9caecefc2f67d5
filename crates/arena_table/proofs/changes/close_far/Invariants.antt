use Rattle.std.proofs.Common.{◌<◌, [], ◌∷◌}
use Rattle.arena_chunks.specs.Frame.{Frame}
use Rattle.arena_items.specs.Room.{SamePlaces}
use Rattle.hash_ring.specs.Marks.{home_of}
use Rattle.hash_ring.proofs.Close.{Closing}
use Rattle.arena_table.specs.Contents.{kind}
use Rattle.arena_table.specs.Tables.{pair_hash, slots_in, IsTableIn}
use Rattle.arena_table.proofs.changes.close_far.Given as goal

abbrev pub invariant-slots : goal.invariant-slots
invariant-slots g l =
    let k = kind g.K.Item g.K.ArenaKey.key g.V.Item g.S.KeyHasher.hash_of in
    record {
      some : 0 < l.table.slots;
      begun : l.at < l.table.slots;
      held : IsTableIn k l.a.memory l.hasher l.table;
      closing : Closing (λ p. home_of l.table.slots (pair_hash k l.a.memory l.hasher p)) l.table.slots l.at
          (slots_in g.K.Item g.V.Item l.fn.a.memory l.table) l.counter
          (slots_in g.K.Item g.V.Item l.a.memory l.table) l.gap;
      within : l.gap < l.table.slots;
      places : SamePlaces l.fn.a l.a;
      frame : Frame l.fn.a.memory l.a.memory (l.table.block ∷ []) (l.table.block ∷ []);
    }
