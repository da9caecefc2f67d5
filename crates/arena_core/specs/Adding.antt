-- How a chunk is asked for and becomes the newest.
use Rattle.std.specs.Prelude.{◌≡◌, ℕ, ◌+◌, ◌-◌, max, true, Option, Some, None, MatchOption, Result, Ok, Err, ◌∷◌, length, take, replicate, slice_get, IsTrue}
use Rattle.arena_rules.specs.Rounding.{down}
use Rattle.arena_rules.specs.State.{IsValid, is_used, with_cursor}
use Rattle.arena_rules.specs.Moves.{with_chunk, alloc}
use Rattle.arena_rules.specs.Search.{place, asked, requests, alloc_requests}
use Rattle.arena_rules.specs.Statistics.{one_allocation}
use Rattle.arena_store.specs.Memory.{Memory, image}
use Rattle.arena_store.specs.Source.{View, IsAsked}
use Rattle.arena_store.specs.declared.block.ArenaErr.{ArenaErr}
use Rattle.arena_store.specs.declared.block.ArenaErr.TheVariants.{AllocErr, OutOfMemory}

-- A granted chunk of a valid growing arena is now the newest, with nothing used and zeros in it, and has a place for
-- the block.
pub record IsAdded (old new : Memory) (size align k p : ℕ) : Type 0 where
  pub entry : ℕ × ℕ
  pub asked : slice_get (asked old.state size align) k ≡ Some entry
  pub memory : new ≡ record { state = with_chunk entry old.state; statistics = old.statistics; bytes = replicate entry.1 0 ∷ old.bytes }
  pub place : p ≡ down (entry.0 + entry.1 - size) (max align old.state.min_align)
  pub growing : old.state.is_growing ≡ true
  pub valid : IsValid old.state

-- A chunk was asked for, and refused k times: one was added, or all were refused.
pub record AddsChunk (old new : View) (size align k : ℕ) (answer : Option ℕ) : Type 0 where
  pub added : MatchOption answer (k ≡ length (asked old.memory.state size align)) (IsAdded old.memory new.memory size align k)
  pub asked : IsAsked old.source new.source k (requests align (take (k + 1) (asked old.memory.state size align)))

-- the memory of an arena with a block placed at p
abbrev pub placed_at : Memory → ℕ → Memory
placed_at memory p = record { state = with_cursor p memory.state; statistics = one_allocation memory.statistics; bytes = memory.bytes }

-- an allocation step that changed no byte in use
pub record IsPlacing (old new : Memory) (size align k p : ℕ) : Type 0 where
  pub step : alloc old.state size align k ≡ Some (record { answer = Some p; state = new.state })
  pub statistics : new.statistics ≡ one_allocation old.statistics
  pub bytes : (a : ℕ) → IsTrue (is_used old.state a) → image new a ≡ image old a

-- The block has a place in the newest chunk: after k refusals, which are the source's, it is where the rule puts it.
pub record FindsPlace (old new : View) (size align k p : ℕ) : Type 0 where
  pub valid : IsValid old.memory.state
  pub place : place new.memory.state size align ≡ Some p
  pub placing : IsPlacing old.memory (placed_at new.memory p) size align k p
  pub asked : IsAsked old.source new.source k (alloc_requests old.memory.state size align k)

-- a property of the number of refusals and of the place, and one for a lack of memory
abbrev pub OnFound : Result (ℕ × ℕ) ArenaErr → (ℕ → Option ℕ → Type 0) → Type 0 → Type 0
OnFound (Ok found) told exhausted = told found.1 (Some found.0)
OnFound (Err (AllocErr refused)) told exhausted = told refused None
OnFound (Err OutOfMemory) told exhausted = exhausted
