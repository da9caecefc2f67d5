-- What the top call does for all words.
use Rattle.std.specs.Prelude.{◌≡◌, ℕ, List}
use Rattle.arena_chunks.specs.Source.{Source}
use Rattle.script_rules.specs.declared.commands.Command.{Command}
use Rattle.script_rules.specs.declared.outcome.Outcome.{Outcome}
use Rattle.arena_workers.specs.declared.served.Starved.{Starved}
use Rattle.arena_calls.specs.Ends.{Outside, Ends, GenEnds, AsksCalls, AsksGen}
use Rattle.arena_calls.specs.declared.status.Status.{Status}
use Rattle.arena_calls.specs.declared.status.Status.TheVariants.{Usage}
use Rattle.arena_program.specs.Words.{AsksScripts, AsksLint}
use Rattle.arena_program.specs.PoolEnds.{ScriptEnds, LintEnds}
use Rattle.arena_program.specs.declared.tasks.Task.{Task}

-- The run ends as the words ask. Other words are no command, and nothing is touched. Where neither scripts nor sources
-- are asked for, nothing that shows starving is gained.
pub record MainEnds {C : Type 0} (source : C → Source) (worked : List Command → Outcome → Type 0) (words : List (List ℕ))
    (status : Status) (old new : Outside) (before after : List (ℕ × Starved C)) : Type 0 where
  pub calls : AsksCalls words → Ends status old new
  pub gen : (start count : ℕ) → AsksGen words start count → GenEnds start count status old new
  pub scripts : (task : Task) → AsksScripts words task → ScriptEnds source worked task.lender status old new before after
  pub lint : (workers : ℕ) → AsksLint words workers → LintEnds source status old new before after
  pub other : (AsksCalls words → ⊥) → ((start count : ℕ) → AsksGen words start count → ⊥)
      → ((task : Task) → AsksScripts words task → ⊥) → ((workers : ℕ) → AsksLint words workers → ⊥) → (status ≡ Usage) × (new ≡ old)
  pub unstarved : ((task : Task) → AsksScripts words task → ⊥) → ((workers : ℕ) → AsksLint words workers → ⊥) → after ≡ before
