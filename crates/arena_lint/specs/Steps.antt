-- What the steps of a walk do.
use Rattle.std.specs.Prelude.{◌≡◌, ℕ, ◌+◌, ◌≤◌, None, List, [], ◌∷◌, ◌++◌, OnOk, Result}
use Rattle.std.specs.List.{AllByRecursion}
use Rattle.arena_chunks.specs.Memory.{Memory}
use Rattle.arena_chunks.specs.Source.{View}
use Rattle.arena_items.specs.declared.room.AllocError.{AllocError}
use Rattle.arena_symbols.specs.Named.{Moves}
use Rattle.arena_symbols.specs.declared.names.Names.{Names as Known}
use Rattle.tree_rules.specs.Tokens.{Token}
use Rattle.tree_rules.specs.Grammar.{Line}
use Rattle.tree_rules.specs.Trees.{IsName, Stmts, AreStmts}
use Rattle.tree_rules.specs.Weights.{weights}
use Rattle.tree_rules.specs.Report.{NameSet, undefined, Walk, found_first, walk}
use Rattle.tree_rules.specs.declared.finding.Finding.{Finding}
use Rattle.arena_tree.specs.Parts.{spelled_at}
use Rattle.lint_reports.specs.Taking.{Taking}
use Rattle.arena_lint.specs.Ahead.{HaveNames, spell_lines, line_trees, AreEnded, LinesAhead}
use Rattle.arena_lint.specs.Knowing.{Knows}
use Rattle.arena_lint.specs.Spending.{Takes}
use Rattle.arena_lint.specs.Stopping.{GoesOn}

-- What was taken, and what is found of the names that are left, is all that is found.
pub record Taken {F : Type 0} (taking : Taking F) (sets : List NameSet) (first found : F) (names left : List (List ℕ)) : Type 0 where
  pub taken : List Finding
  pub gained : taking.gains first found taken
  pub all : taken ++ undefined sets left ≡ undefined sets names

-- Some names are done; these are left.
pub record Left {F : Type 0} (taking : Taking F) (m : Memory) (k : Known) (bytes : List ℕ) (here : ℕ) (first found : F)
    (names : List (List ℕ)) (behind : List Token) : Type 0 where
  pub left : List (List ℕ)
  pub ahead : HaveNames (spelled_at bytes here) left behind
  pub good : AllByRecursion IsName left
  pub taken : (sets : List NameSet) → Knows m k sets → Taken taking sets first found names left

-- The findings of a walk were taken, and its names are known after it.
abbrev pub Finds : {F X : Type 0} → Taking F → Memory → Memory → Known → Known → F → F → Result X AllocError
    → (List NameSet → Walk) → Type 0
Finds taking old new k l first found result walked =
    (sets : List NameSet) → Knows old k sets
    → OnOk result (Knows new l (walked sets).known × taking.gains first found (walked sets).findings)

-- Some statements are done: from what is known there, a walk over those that are left ends as one over all.
pub record Halfway {F : Type 0} (taking : Taking F) (new : Memory) (l : Known) (first found : F) (ss left : Stmts) (sets : List NameSet)
    : Type 0 where
  pub between : List NameSet
  pub knows : Knows new l between
  pub taken : List Finding
  pub gained : taking.gains first found taken
  pub all : found_first taken (walk left between) ≡ walk ss sets

-- What the statements that are done have taken, and where a walk over all is halfway. These statements are left.
pub record Behind {F : Type 0} (taking : Taking F) (old new : View) (k l : Known) (first found : F) (bytes : List ℕ) (here : ℕ)
    (ss : Stmts) (last : List Token) : Type 0 where
  pub left : List Line
  pub tokens_are : spelled_at bytes here ≡ spell_lines left last
  pub ended : AreEnded last
  pub good : AreStmts (line_trees left)
  pub spent : ℕ
  pub all : spent + weights (line_trees left) ≡ weights ss
  pub takes : Takes spent old new k l None
  pub goes : GoesOn ss (line_trees left) old new k l
  pub halfway : (sets : List NameSet) → Knows old.memory k sets
      → Halfway taking new.memory l first found ss (line_trees left) sets

pub record Walking {F : Type 0} (taking : Taking F) (old new : View) (k l : Known) (first found : F) (bytes : List ℕ) (at here : ℕ)
    : Type 0 where
  pub moves : Moves old.memory new.memory k l
  pub later : at ≤ here
  pub behind : (t : LinesAhead bytes at) → Behind taking old new k l first found bytes here (line_trees t.lines) t.behind

-- there is a set
abbrev pub IsNotEmpty : List NameSet → Type 0
IsNotEmpty [] = ⊥
IsNotEmpty (names ∷ sets) = Unit {0}
