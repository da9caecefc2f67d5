-- How an arena is created.
use Rattle.std.specs.Prelude.{◌≡◌, ℕ, Option, Some, None, Result, Ok, Err, List, map, replicate}
use Rattle.std.specs.Option.{option_map}
use Rattle.arena_rules.specs.State.{State, Chunk}
use Rattle.arena_rules.specs.Creation.{create, create_requests}
use Rattle.arena_rules.specs.Statistics.{uncounted}
use Rattle.arena_store.specs.Memory.{Memory}
use Rattle.arena_store.specs.Source.{Source, IsAsked}
use Rattle.arena_store.specs.declared.block.ArenaErr.{ArenaErr}
use Rattle.arena_store.specs.declared.block.ArenaErr.TheVariants.{AllocErr, OutOfMemory}

-- an arena whose counts are 0, with these bytes in its chunks
abbrev pub uncounted_memory : State → List (List ℕ) → Memory
uncounted_memory state bytes = record { state = state; statistics = uncounted; bytes = bytes }

-- the same with zeros in its chunks
abbrev pub zeroed_memory : State → Memory
zeroed_memory state = uncounted_memory state (map (λ (c : Chunk). replicate c.size 0) state.chunks)

-- The constructor's rule, where k requests are refused, which are the source's, and the one request.
pub record IsCreation (min_align capacity k : ℕ) (answer : Option Memory) (before after : Source) : Type 0 where
  pub step : option_map (option_map zeroed_memory) (create min_align capacity k) ≡ Some answer
  pub asked : IsAsked before after k (create_requests min_align capacity)

-- The result of a constructor with a capacity. It takes memory from the source alone, so that it reports a lack of
-- memory as a refusal.
abbrev pub Creates : ℕ → ℕ → Source → Source → Result Memory ArenaErr → Type 0
Creates min_align capacity before after (Ok memory) = IsCreation min_align capacity 0 (Some memory) before after
Creates min_align capacity before after (Err (AllocErr refused)) = IsCreation min_align capacity refused None before after
Creates min_align capacity before after (Err OutOfMemory) = ⊥
