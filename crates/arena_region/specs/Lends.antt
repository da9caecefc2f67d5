-- The final values of a region and of its memory, once a `&mut` into them has ended.
use Rattle.std.specs.Prelude.{ℕ, List}
use Rattle.std.specs.Borrow.{Fml, MutBor, Array, Lends, u8}
use Rattle.arena_region.specs.Bytes.{Bytes, bytes, written_from}
use Rattle.arena_region.specs.declared.store.Store.{Store}
use Rattle.arena_region.specs.contracts.store.Store as store
use Rattle.arena_region.specs.contracts.region.Region as region

-- from this index on the region has the final bytes written through r
abbrev pub LendsPart : MutBor Bytes → ℕ → MutBor (List ℕ) → Fml
LendsPart b from r = Lends region.the_row (Array u8 0) b r (λ list. bytes (written_from b.now.items from list) b.now.low)

-- the same for the bytes that are ready
abbrev pub with_ready : Store → ℕ → List ℕ → Store
with_ready s from list = record { at = s.at; room = s.room; ready = written_from s.ready from list }

abbrev pub LendsReady : MutBor Store → ℕ → MutBor (List ℕ) → Fml
LendsReady s from r = Lends store.the_row (Array u8 0) s r (with_ready s.now from)
