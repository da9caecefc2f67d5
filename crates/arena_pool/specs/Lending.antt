-- What a borrower writes into a lent arena.
use Rattle.std.specs.Prelude.{[]}
use Rattle.std.specs.Borrow.{Lends, MutBor, Fml, RattleType}
use mir.Syntax.{named}
use Rattle.arena_chunks.specs.Source.{View}
use Rattle.arena_chunks.specs.contracts.allocator.Allocator.{the_row as arena_row}
use Rattle.arena_store.specs.declared.source.ChunkSource.{Ghosts as SourceGhosts}
use Rattle.std.specs.declared.sync.ledger.Ledger.{Ghosts as LedgerGhosts}
use Rattle.arena_pool.specs.Pool.{Pooled}
use Rattle.arena_pool.specs.declared.name.PoolName.{Ghosts as NameGhosts}
use Rattle.arena_pool.specs.contracts.guard.AllocatorGuard.{the_row}

-- the arena of a guard with another state
abbrev pub with_arena : Pooled → View → Pooled
with_arena p arena = (arena, p.1)

module _ (K L C : RattleType) (s : SourceGhosts C.Denot) (n : NameGhosts L.Denot) (l : LedgerGhosts L.Denot) where
  abbrev pub guard_row : RattleType
  guard_row = the_row (record { mir = named 1; lft = [] }) K L C n s l

  -- the guard's arena ends as what was last written through r
  abbrev pub lends_arena : MutBor guard_row.Denot → MutBor View → Fml
  lends_arena g r = Lends guard_row (arena_row C s) g r (with_arena g.now)
