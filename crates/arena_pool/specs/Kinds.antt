-- The two kinds of arenas that pools have, and arenas as they are stored and lent.
use Rattle.std.specs.Prelude.{◌≡◌, ℕ, ◌-◌, ◌≤◌, ◌%◌, Bool, true, false, not, nat_le, IsTrue, Option, None, Some, is_some, IfSome, [], take}
use Rattle.arena_rules.specs.State.{State, IsValid, used_bytes, allocated_bytes}
use Rattle.arena_rules.specs.Moves.{reset}
use Rattle.arena_rules.specs.Creation.{empty_state, fixed_state}
use Rattle.arena_rules.specs.Statistics.{uncounted}
use Rattle.arena_chunks.specs.Memory.{Memory}
use Rattle.arena_chunks.specs.Source.{Source, View}
use Rattle.arena_chunks.specs.Creating.{zeroed_memory}
use Rattle.arena_pool.specs.declared.kind.PoolKind.{PoolKind}
use Rattle.arena_pool.specs.declared.kind.PoolKind.TheVariants.{Standard, FixedSize}

abbrev pub is_fixed : PoolKind → Bool
is_fixed Standard = false
is_fixed (FixedSize bytes) = true

-- An arena of the kind grows, or it doesn't and has a region of this many bytes, the last 48 of which are no block's.
pub record IsOfKind (kind : PoolKind) (state : State) : Type 0 where
  pub growing : state.is_growing ≡ not (is_fixed kind)
  pub region : (bytes : ℕ) → kind ≡ FixedSize bytes → allocated_bytes state ≡ bytes - 48

-- regions that an arena can be made over
abbrev pub HasRegions : PoolKind → Type 0
HasRegions Standard = Unit {0}
HasRegions (FixedSize bytes) = (bytes % 16 ≡ 0) × (48 ≤ bytes)

-- the arenas of a fixed pool have ids, and no others
abbrev pub HasId : PoolKind → Option ℕ → Type 0
HasId kind id = is_some id ≡ is_fixed kind

-- the ids of a new pool's arenas are the numbers from 0
abbrev pub first_id : PoolKind → ℕ → Option ℕ
first_id Standard i = None
first_id (FixedSize bytes) i = Some i

-- a limit in bytes on what a pool of the kind keeps: a fixed one has none
abbrev pub HasLimit : PoolKind → Option ℕ → Type 0
HasLimit Standard limit = Unit {0}
HasLimit (FixedSize bytes) limit = limit ≡ None

-- whether this many bytes are within the limit
abbrev pub is_within : Option ℕ → ℕ → Bool
is_within None allocated = true
is_within (Some limit) allocated = nat_le allocated limit

-- the arena has no more bytes than the limit, if there is one: all its bytes count, not just those in use
abbrev pub IsWithin : Option ℕ → View → Type 0
IsWithin limit arena = IsTrue (is_within limit (allocated_bytes arena.memory.state))

-- an arena of the kind with no bytes in use, and nothing counted
pub record IsUnused (kind : PoolKind) (arena : View) : Type 0 where
  pub valid : IsValid arena.memory.state
  pub used : used_bytes arena.memory.state ≡ 0
  pub statistics : arena.memory.statistics ≡ uncounted
  pub of_kind : IsOfKind kind arena.memory.state

-- a new arena: without a chunk, or over a region of zeros
abbrev pub new_memory : PoolKind → Memory
new_memory Standard = zeroed_memory (empty_state 1)
new_memory (FixedSize bytes) = zeroed_memory (fixed_state 1 (bytes - 48))

-- a source that has refused nothing, and has recorded no request, if it records them
pub record IsFresh (source : Source) : Type 0 where
  pub refusals : source.refusals ≡ 0
  pub asked : IfSome source.asked (λ made. made ≡ [])

-- a new arena with such a source
pub record IsNew (kind : PoolKind) (arena : View) : Type 0 where
  pub memory : arena.memory ≡ new_memory kind
  pub source : IsFresh arena.source

-- an arena after a reset
abbrev pub reset_view : View → View
reset_view arena = record arena {
  memory = record {
    state = reset arena.memory.state;
    statistics = uncounted;
    bytes = take 1 arena.memory.bytes;
  };
}
