-- What is promised of a text that a worker lints on an arena of a pool.
use Rattle.std.specs.Prelude.{◌≡◌, ◌≢◌, ℕ, ◌^◌, ◌≤◌, ◌⊎◌, Bool, true, false, List, length, None, IfNone, IsSomeAnd}
use Rattle.arena_chunks.specs.Source.{Source, View}
use Rattle.arena_pool.specs.Kinds.{IsUnused}
use Rattle.arena_pool.specs.declared.kind.PoolKind.{PoolKind}
use Rattle.arena_pool.specs.declared.kind.PoolKind.TheVariants.{Standard}
use Rattle.arena_tree.specs.Parsing.{IsProgramText}
use Rattle.arena_workers.specs.Working.{Terms, LiesLow, IsKept}
use Rattle.arena_workers.specs.Starving.{IsTooSmall, ShowsStarved}
use Rattle.arena_workers.specs.declared.served.Served.{Served}
use Rattle.arena_lint.specs.declared.parts.Linted.{Linted}
use Rattle.lint_reports.specs.Reports.{Reports, said, report_text}
use Rattle.lint_reports.specs.declared.report.FileReport.{FileReport}
use Rattle.lint_reports.specs.declared.report.FileReport.TheVariants.{Checked, Syntax, TooDeep, NumberTooBig, Full, Refused, OutOfMemory}
use Rattle.arena_lint.specs.Linting.{Lints, lint_bytes}

-- The text was linted on an arena of the pool's kind, of which nothing was used before. The report is that of this run:
-- its bytes are in use in this arena, and if it says that a block had no place, this arena had none for it. Of an arena
-- that grew and refused, whose newest chunk ended low before, what is kept is the arena or its source.
pub record IsRunAlone {C : Type 0} (source : C → Source) (kind : PoolKind) (bytes : List ℕ) (linted : Linted C) : Type 0 where
  pub old : View
  pub new : View
  pub unused : IsUnused kind old
  pub low : LiesLow old.memory.state
  pub ran : Lints bytes old new linted.report
  pub kept : linted.report ≡ Refused → IsSomeAnd linted.starved (IsKept source new)

-- What is promised of each text over a pool of this kind: its one report. A report that says nothing of the text is
-- only of a program, or of lack of memory before the text was begun. It is `Full` only if the pool's arenas have fewer
-- bytes than it may take, and `Refused` only over a standard pool, exactly if there is something that shows why. Unless
-- memory ran out, it was linted on one arena.
pub record IsLintedAlone {C : Type 0} (source : C → Source) (kind : PoolKind) (bytes : List ℕ) (linted : Linted C) : Type 0 where
  pub reports : Reports bytes linted.report
  pub stopped : IfNone (said linted.report) (IsProgramText bytes ⊎ (linted.report ≡ OutOfMemory))
  pub full : linted.report ≡ Full → IsTooSmall kind (lint_bytes (length bytes))
  pub refused : linted.report ≡ Refused
      → (kind ≡ Standard) × IsSomeAnd linted.starved (ShowsStarved source (lint_bytes (length bytes)))
  pub other : linted.report ≢ Refused → linted.starved ≡ None
  pub ran : IsRunAlone source kind bytes linted ⊎ (linted.report ≡ OutOfMemory)

abbrev pub is_refused : FileReport → Bool
is_refused (Checked findings) = false
is_refused (Syntax at) = false
is_refused (TooDeep at) = false
is_refused (NumberTooBig at) = false
is_refused Full = false
is_refused Refused = true
is_refused OutOfMemory = false

-- This is the text of such a report of source number i, and whether it says that an arena refused.
pub record IsTextOf (i : ℕ) (Is : FileReport → Type 0) (text : List ℕ) (refused : Bool) : Type 0 where
  pub report : FileReport
  pub is : Is report
  pub same_text : text ≡ report_text i report
  pub same_refused : refused ≡ is_refused report

-- the result of a text as work
abbrev pub linted : {C : Type 0} → Served FileReport C → Linted C
linted served = record { report = served.outcome; starved = served.starved }

-- texts as work on lent arenas
abbrev pub lint_terms : Terms (List ℕ) FileReport
lint_terms = record {
  accepts = λ bytes. length bytes ≤ 2 ^ 24;
  done = λ i. Lints;
  unserved = λ report. report ≡ OutOfMemory;
  is_refused = is_refused;
}
