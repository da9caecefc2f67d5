-- An arena together with its source of chunks.
use Rattle.arena_store.specs.Memory.{Memory}
pub use Rattle.arena_rules.specs.Source.{Source, IsAsked}

-- An arena with its source, as seen by the contracts of calls that take memory.
pub record View : Type 0 where
  pub memory : Memory
  pub source : Source

abbrev pub view : Memory → Source → View
view memory source = record { memory = memory; source = source }
