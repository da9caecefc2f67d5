-- What comes of a script that a worker runs on an arena of a pool.
use Rattle.std.specs.Prelude.{◌≡◌, ◌≢◌, ◌≤◌, ◌⊎◌, Bool, true, false, List, [], None, IsSomeAnd, ⊤}
use Rattle.arena_chunks.specs.Source.{Source, View}
use Rattle.arena_pool.specs.Kinds.{IsUnused}
use Rattle.arena_pool.specs.declared.kind.PoolKind.{PoolKind}
use Rattle.arena_pool.specs.declared.kind.PoolKind.TheVariants.{Standard}
use Rattle.script_rules.specs.Objects.{need}
use Rattle.script_rules.specs.Machine.{run, cost_of}
use Rattle.script_rules.specs.declared.commands.Command.{Command}
use Rattle.script_rules.specs.declared.commands.Ended.{Ended}
use Rattle.script_rules.specs.declared.commands.Ended.TheVariants as ended
use Rattle.script_rules.specs.declared.outcome.Outcome.{Outcome}
use Rattle.arena_script.specs.Running.{Replies, IsRun, IsStoppedAt, cost_with_next, objects_so_far}
use Rattle.arena_workers.specs.Working.{Terms, LiesLow, IsKept}
use Rattle.arena_workers.specs.Starving.{IsTooSmall, ShowsStarved}
use Rattle.arena_workers.specs.declared.served.Served.{Served}

-- ---- What is promised of each script

-- No command was served, since memory ran out. Nothing was used.
pub record IsUnserved (outcome : Outcome) : Type 0 where
  pub replies : outcome.replies ≡ []
  pub ended : outcome.ended ≡ ended.OutOfMemory
  pub used : outcome.used ≡ 0

-- The script was run on an arena of the pool's kind, of which nothing was used before. The outcome is that of this run:
-- its bytes are in use in this arena, and if it ended refused or full, this arena refused what the next command asked for.
-- Of an arena that grew and refused, whose newest chunk ended low before, what is kept is the arena or its source.
pub record IsRunAlone {C : Type 0} (source : C → Source) (kind : PoolKind) (script : List Command) (served : Served Outcome C)
    : Type 0 where
  pub old : View
  pub new : View
  pub unused : IsUnused kind old
  pub low : LiesLow old.memory.state
  pub ran : IsRun script old new served.outcome
  pub kept : served.outcome.ended ≡ ended.Refused → IsSomeAnd served.starved (IsKept source new)

-- What is promised of each script over a pool of this kind: the first replies of the plain machine, bytes within what
-- it needs and costs, and the causes of its ending. Unless memory ran out before its first command, it was run on one
-- arena, and has the job's relation.
pub record IsServedAlone {C : Type 0} (source : C → Source) (kind : PoolKind) (worked : List Command → Outcome → Type 0)
    (script : List Command) (served : Served Outcome C) : Type 0 where
  pub replies : Replies script served.outcome
  pub most : served.outcome.used ≤ cost_with_next script served.outcome
  pub least : served.outcome.ended ≡ ended.Done → need (run script).objects ≤ served.outcome.used
  pub so_far : need (objects_so_far script served.outcome) ≤ served.outcome.used
  pub stopped : served.outcome.ended ≢ ended.Done → IsUnserved served.outcome ⊎ IsStoppedAt script served.outcome
  pub full : served.outcome.ended ≡ ended.Full → IsTooSmall kind (cost_with_next script served.outcome)
  pub refused : served.outcome.ended ≡ ended.Refused
      → (kind ≡ Standard) × IsSomeAnd served.starved (ShowsStarved source (cost_of script))
  pub other : served.outcome.ended ≢ ended.Refused → served.starved ≡ None
  pub ran : IsRunAlone source kind script served ⊎ IsUnserved served.outcome
  pub relation : worked script served.outcome ⊎ IsUnserved served.outcome

-- ---- A job as work on lent arenas

abbrev pub is_refused : Ended → Bool
is_refused ended.Done = false
is_refused ended.Full = false
is_refused ended.Refused = true
is_refused ended.OutOfMemory = false

-- what a job promises of a script that it runs
pub record IsRunBy (worked : List Command → Outcome → Type 0) (script : List Command) (old new : View) (outcome : Outcome) : Type 0 where
  pub ran : IsRun script old new outcome
  pub did : worked script outcome

abbrev pub script_terms : (List Command → Outcome → Type 0) → Terms (List Command) Outcome
script_terms worked = record {
  accepts = λ script. ⊤;
  done = λ i. IsRunBy worked;
  unserved = IsUnserved;
  is_refused = λ outcome. is_refused outcome.ended;
}
