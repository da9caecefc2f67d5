use Rattle.std.proofs.Common.{◌≡◌, ◌-◌, [], ◌∷◌}
use Rattle.arena_chunks.specs.Frame.{Frame}
use Rattle.arena_items.specs.Room.{SamePlaces}
use Rattle.arena_items.specs.Values.{bytes_of}
use Rattle.hash_ring.specs.Walks.{front_of, IsScan}
use Rattle.hash_ring.proofs.Fill.{Filled}
use Rattle.arena_table.specs.Contents.{kind}
use Rattle.arena_table.specs.Tables.{marks_in, slots_in, IsReadBeside, IsTableIn}
use Rattle.arena_table.proofs.table.Table.carry_all.Given as goal

abbrev pub invariant-pairs : goal.invariant-pairs
invariant-pairs g l =
    let k = kind g.K.Item g.K.ArenaKey.key g.V.Item g.S.KeyHasher.hash_of in
    record {
      held : IsTableIn k l.a.memory l.hasher l.self;
      from : IsReadBeside k l.a.memory l.self.block l.from;
      same : bytes_of l.a.memory l.from.block ≡ bytes_of l.fn.a.memory l.from.block;
      scan : IsScan l.from.slots (marks_in l.fn.a.memory l.from) l.scan;
      filled : Filled (slots_in g.K.Item g.V.Item l.fn.a.memory l.from) (front_of l.scan) (slots_in g.K.Item g.V.Item l.a.memory l.self);
      places : SamePlaces l.fn.a l.a;
      frame : Frame l.fn.a.memory l.a.memory (l.self.block ∷ []) (l.self.block ∷ []);
    }

abbrev pub decreases-pairs : goal.decreases-pairs
decreases-pairs g l = l.from.slots - front_of l.scan
