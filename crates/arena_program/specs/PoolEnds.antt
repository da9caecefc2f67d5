-- What each status says of a run of the input's scripts, or of one in which its sources are linted.
use Rattle.std.specs.Prelude.{◌≡◌, ℕ, ◌+◌, ◌≤◌, List, [], ◌∷◌, ◌++◌, map, Option, None, Some, Result, Ok, Err}
use Rattle.std.specs.List.{AllZip}
use Rattle.arena_chunks.specs.Source.{Source}
use Rattle.arena_pool.specs.declared.kind.PoolKind.{PoolKind}
use Rattle.arena_pool.specs.declared.kind.PoolKind.TheVariants as kind
use Rattle.script_rules.specs.Grammar.{ScriptsOf}
use Rattle.script_rules.specs.Outcomes.{text_of_outcomes}
use Rattle.script_rules.specs.declared.commands.Command.{Command}
use Rattle.script_rules.specs.declared.outcome.Outcome.{Outcome}
use Rattle.arena_workers.specs.declared.served.Served.{Served}
use Rattle.arena_workers.specs.declared.served.Starved.{Starved}
use Rattle.script_workers.specs.Serving.{IsServedAlone}
use Rattle.lint_reports.specs.Reports.{text_of_reports}
use Rattle.lint_reports.specs.Sources.{sources}
use Rattle.arena_lint.specs.All.{IsLintedAlone}
use Rattle.arena_lint.specs.declared.parts.Linted.{Linted}
use Rattle.arena_calls.specs.ReadAll.{limit, TakesFront}
use Rattle.arena_calls.specs.Ends.{Outside, IsUntouched, Word, EndsAs}
use Rattle.arena_calls.specs.declared.status.Status.{Status}
use Rattle.arena_program.specs.declared.tasks.Lender.{Lender}
use Rattle.arena_program.specs.declared.tasks.Lender.TheVariants.{Standard, Keeping, Fixed}
use Rattle.arena_program.specs.declared.tasks.Task.{Task}

-- what shows that the piece of work of this number was starved, if something does
abbrev pub shown : {C : Type 0} → ℕ → Option (Starved C) → List (ℕ × Starved C)
shown i None = []
shown i (Some starved) = (i, starved) ∷ []

-- what shows that pieces of work were starved, the first of which has this number
abbrev pub starved_of : {S C : Type 0} → (S → Option (Starved C)) → ℕ → List S → List (ℕ × Starved C)
starved_of starved i [] = []
starved_of starved i (served ∷ all) = shown i (starved served) ++ starved_of starved (i + 1) all

-- These are the results of the pieces, in order, each as promised of that piece alone. What shows that pieces were
-- starved was gained: `before` and `after` are what was held of that, and is then held. The arena isn't touched.
pub record RunsPieces {P S C : Type 0} (promise : P → S → Type 0) (starved : S → Option (Starved C)) (old new : Outside)
    (before after : List (ℕ × Starved C)) (pieces : List P) (all : List S) : Type 0 where
  pub alone : AllZip promise pieces all
  pub gained : after ≡ before ++ starved_of starved 0 all
  pub arena : new.arena ≡ old.arena

-- nothing was run or written, and nothing gained
pub record IsUnrun {C : Type 0} (old new : Outside) (before after : List (ℕ × Starved C)) : Type 0 where
  pub untouched : IsUntouched old new
  pub gained : after ≡ before

-- A word that reads pieces of work, runs them on a pool, and prints the text of their results.
abbrev pub pool_word : {P S C : Type 0} → (List ℕ → Result (List P) ℕ → Type 0) → (P → S → Type 0) → (S → Option (Starved C))
    → (List S → List ℕ) → List (ℕ × Starved C) → List (ℕ × Starved C) → Word (List P)
pool_word reads promise starved text before after = record {
  reads = reads;
  ran = λ old new pieces Is.
      (all : List _) × RunsPieces promise starved old new before after pieces all × Is old.written new.written (text all);
  unrun = λ old new. IsUnrun old new before after;
  short = λ old new. IsUnrun old new before after × TakesFront old.left new.left (λ n. n ≤ limit);
}

-- ---- Scripts

-- the kind of the pool that the words name
abbrev pub kind_of : Lender → PoolKind
kind_of Standard = kind.Standard
kind_of (Keeping most) = kind.Standard
kind_of (Fixed bytes arenas) = kind.FixedSize bytes

-- the limit in bytes on what that pool keeps, if there is one
abbrev pub limit_of : Lender → Option ℕ
limit_of Standard = None
limit_of (Keeping most) = Some most
limit_of (Fixed bytes arenas) = None

-- how many arenas that pool has at first: as many as the words say, or else one for each worker
abbrev pub arenas_of : Task → ℕ
arenas_of task = elim task.lender [ Fixed bytes arenas ↦ arenas | _ ↦ task.workers ]

abbrev pub text_of_served : {C : Type 0} → List (Served Outcome C) → List ℕ
text_of_served all = text_of_outcomes (map (λ served. served.outcome) all)

-- each script is served as promised of it alone, over a pool of the kind that the words name
abbrev pub script_word : {C : Type 0} → (C → Source) → (List Command → Outcome → Type 0) → Lender → List (ℕ × Starved C)
    → List (ℕ × Starved C) → Word (List (List Command))
script_word source worked lender =
    pool_word ScriptsOf (IsServedAlone source (kind_of lender) worked) (λ served. served.starved) text_of_served

abbrev pub ScriptEnds : {C : Type 0} → (C → Source) → (List Command → Outcome → Type 0) → Lender → Status → Outside → Outside
    → List (ℕ × Starved C) → List (ℕ × Starved C) → Type 0
ScriptEnds source worked lender status old new before after = EndsAs (script_word source worked lender before after) status old new

-- ---- Sources

-- each input is sources, so no line is refused
abbrev pub SourcesOf : List ℕ → Result (List (List ℕ)) ℕ → Type 0
SourcesOf bytes (Ok all) = all ≡ sources bytes
SourcesOf bytes (Err n) = ⊥

abbrev pub text_of_linted : {C : Type 0} → List (Linted C) → List ℕ
text_of_linted all = text_of_reports (map (λ linted. linted.report) all)

-- each source is linted as promised of it alone, over a standard pool
abbrev pub lint_word : {C : Type 0} → (C → Source) → List (ℕ × Starved C) → List (ℕ × Starved C) → Word (List (List ℕ))
lint_word source = pool_word SourcesOf (IsLintedAlone source kind.Standard) (λ linted. linted.starved) text_of_linted

abbrev pub LintEnds : {C : Type 0} → (C → Source) → Status → Outside → Outside → List (ℕ × Starved C) → List (ℕ × Starved C) → Type 0
LintEnds source status old new before after = EndsAs (lint_word source before after) status old new
