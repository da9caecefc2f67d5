-- A source of chunks with limits, as contracts see it.
use Rattle.std.specs.Prelude.{◌≡◌, ℕ, ◌⊎◌, List}
use Rattle.call_rules.specs.declared.calls.Call.{Call}
use Rattle.arena_store.specs.Source.{Source, View}
use Rattle.arena_runs.specs.Runs.{RunsFirst}
use Rattle.arena_oracle.specs.Limits.{reported}
use Rattle.arena_oracle.specs.declared.source.ListedChunks.{ListedChunks}

abbrev pub source_of : ListedChunks → Source
source_of chunks = record {
  refusals = chunks.refused;
  asked = reported chunks.exhausted chunks.budget chunks.refuse.now chunks.requests.items;
}

-- memory ran out before the first of these calls, or when the first ones were run
abbrev pub StopsEarly : View → View → List Call → Type 0
StopsEarly entry exit calls = (exit ≡ entry) ⊎ ((done : ℕ) × RunsFirst entry exit calls done)
