use Rattle.std.proofs.Common.{◌≡◌, ◌<◌, ℕ, List}
use Rattle.arena_items.specs.Values.{bytes_of}
use Rattle.hash_ring.specs.Marks.{home_of}
use Rattle.hash_ring.proofs.Find.{Passed}
use Rattle.arena_table.specs.Contents.{content_in}
use Rattle.arena_table.specs.Tables.{slots_in, IsShape, IsTable}
use Rattle.arena_table.proofs.SearchLemmas.{Seeking}
use Rattle.arena_table.proofs.search.find.Given as goal

abbrev pub invariant-slots : goal.invariant-slots
invariant-slots g l = record {
  some : 0 < l.table.slots;
  shape : IsShape g.K.Item g.V.Item l.table.slots (bytes_of l.a.memory l.table.block);
  seeking : Seeking g.K.Item g.V.Item l.table.slots (bytes_of l.a.memory l.table.block) l.hash l.counter l.at l.mark;
  passed : (h : List ℕ → ℕ)
      → IsTable g.K.Item g.V.Item (λ p. h (content_in g.K.ArenaKey.key l.a.memory p.0)) l.table.slots (bytes_of l.a.memory l.table.block)
      → h l.wanted ≡ l.hash
      → Passed l.table.slots (λ p. content_in g.K.ArenaKey.key l.a.memory p.0) l.wanted (home_of l.table.slots l.hash)
      (slots_in g.K.Item g.V.Item l.a.memory l.table) l.counter;
}
