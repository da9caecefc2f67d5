-- The report of a text, and what it takes.
use Rattle.std.specs.Prelude.{◌≡◌, ℕ, ◌+◌, ◌*◌, ◌≤◌, ◌⊎◌, Bool, true, false, List, length, IfNone, Ok}
use Rattle.arena_rules.specs.Moves.{reset}
use Rattle.arena_chunks.specs.Source.{View}
use Rattle.arena_chunks.specs.Asking.{AsksWithin, IsFull}
use Rattle.arena_items.specs.Costs.{used, KeepsKind}
use Rattle.arena_chunks.specs.Answers.Answer.{Refused as NotPlaced}
use Rattle.arena_rules.specs.Asking.{IsStarvedWithin}
use Rattle.arena_symbols.specs.Named.{AreNewNames}
use Rattle.arena_symbols.specs.declared.names.Names.{Names as Known}
use Rattle.arena_tree.specs.Asking.{ProgramRan}
use Rattle.arena_tree.specs.Stopping.{ProgramEnds}
use Rattle.arena_tree.specs.Parsing.{IsProgramText, parse_bytes}
use Rattle.arena_tree.specs.declared.tree.TreeErr.{TreeErr}
use Rattle.arena_tree.specs.declared.tree.TreeErr.TheVariants as tree
use Rattle.tree_rules.specs.Refusals.{TreeOf}
use Rattle.tree_rules.specs.Trees.{Stmts}
use Rattle.tree_rules.specs.declared.finding.Finding.{Finding}
use Rattle.lint_reports.specs.Taking.{Taking}
use Rattle.lint_reports.specs.Reports.{Reports, said}
use Rattle.lint_reports.specs.declared.report.FileReport.{FileReport}
use Rattle.lint_reports.specs.declared.report.FileReport.TheVariants.{Checked, Syntax, TooDeep, NumberTooBig, Full, Refused, OutOfMemory}
use Rattle.arena_lint.specs.Stopping.{DoesAll, StopsIn}

-- the most bytes of the arena that the report of a text takes
abbrev pub lint_bytes : ℕ → ℕ
lint_bytes length = 4096 * (length + 1)

-- The blocks that the text's tree asks for were placed up to one, which has no place. No more is in use than a tree takes.
pub record StopsInTree (bytes : List ℕ) (old new : View) : Type 0 where
  pub refusals : ℕ
  pub ends : ProgramEnds bytes old new (NotPlaced refusals)
  pub takes : used new ≤ used old + parse_bytes (length bytes)

-- The text's tree is placed, in just the blocks that it asks for, one after another.
pub record PlacesTree (bytes : List ℕ) (trees : Stmts) (old new : View) : Type 0 where
  pub tree : TreeOf bytes (Ok trees)
  pub ran : ProgramRan bytes old new
  pub takes : used new ≤ used old + parse_bytes (length bytes)

-- Its tree is placed, and a walk over the statements, from no names, has the blocks that it asks for.
pub record WalksOver (bytes : List ℕ) (old new : View) : Type 0 where
  pub trees : Stmts
  pub mid : View
  pub tree : PlacesTree bytes trees old mid
  pub first : Known
  pub last : Known
  pub none : AreNewNames first
  pub did : DoesAll trees mid first new last

-- Its tree is placed, and a walk over the statements, from no names, is stopped at the block that it asks for next.
pub record StopsInWalk (bytes : List ℕ) (old new : View) : Type 0 where
  pub trees : Stmts
  pub mid : View
  pub tree : PlacesTree bytes trees old mid
  pub first : Known
  pub none : AreNewNames first
  pub refusals : ℕ
  pub stops : StopsIn trees mid first new (NotPlaced refusals)

-- From this arena on, the block that the text's tree or a walk over it asks for next has no place.
abbrev pub IsStopped : List ℕ → View → Type 0
IsStopped bytes old = (new : View) × (StopsInTree bytes old new ⊎ StopsInWalk bytes old new)

-- A text has its own report, on an arena of which nothing was used. Only the report of a program may say nothing of the
-- text: where the arena doesn't place the block that it asks for next, in an arena that doesn't grow and has fewer bytes
-- than it may take, or in one that grows and was starved; or where memory runs out.
pub record Lints (bytes : List ℕ) (old new : View) (report : FileReport) : Type 0 where
  pub reports : Reports bytes report
  pub stopped : IfNone (said report) (IsProgramText bytes)
  pub most : used new ≤ lint_bytes (length bytes)
  pub asks : AsksWithin (used old + lint_bytes (length bytes)) old new
  pub denied : (report ≡ Full) ⊎ (report ≡ Refused) → StopsInTree bytes old new ⊎ StopsInWalk bytes old new
  pub walked : (findings : List Finding) → report ≡ Checked findings → WalksOver bytes old new
  pub full : report ≡ Full → IsFull (lint_bytes (length bytes)) old
  pub refused : report ≡ Refused
      → IsStarvedWithin (lint_bytes (length bytes)) old.memory.state new.memory.state old.source new.source
  pub kind : KeepsKind old.memory new.memory

-- A text had this report, and then the arena was reset.
pub record IsResetBehind (bytes : List ℕ) (report : FileReport) (old new : View) : Type 0 where
  pub between : View
  pub lints : Lints bytes old between report
  pub state : new.memory.state ≡ reset between.memory.state
  pub source : new.source ≡ between.source

-- A text is a program, whose findings were taken.
pub record Checks {F : Type 0} (taking : Taking F) (bytes : List ℕ) (old new : View) (first found : F) : Type 0 where
  pub findings : List Finding
  pub gained : taking.gains first found findings
  pub lints : Lints bytes old new (Checked findings)

-- the report where a block had no place, by whether the arena grows
abbrev pub no_place : Bool → FileReport
no_place true = Refused
no_place false = Full

-- the report of a text that has no tree
abbrev pub unparsed_by : Bool → TreeErr → FileReport
unparsed_by growing (tree.Syntax at) = Syntax at
unparsed_by growing (tree.TooDeep at) = TooDeep at
unparsed_by growing (tree.NumberTooBig at) = NumberTooBig at
unparsed_by growing (tree.AllocErr refused) = no_place growing
unparsed_by growing tree.OutOfMemory = OutOfMemory
