-- Statements that were read, and what was placed for them.
use Rattle.std.specs.Prelude.{◌≡◌, ℕ, zero, suc, ◌+◌, ◌<◌, ◌≤◌, Option, Some, None, List, [], ◌∷◌, length, slice_range}
use Rattle.arena_chunks.specs.Memory.{Memory}
use Rattle.arena_vec.specs.declared.vec.Vec.{Vec}
use Rattle.tree_rules.specs.Tokens.{LetKey, Word, Equals, LeftBrace, RightBrace, Placed, without_places, tokens}
use Rattle.tree_rules.specs.Grammar.{Line, Program, spell_line, spell, line_tree, trees_of}
use Rattle.tree_rules.specs.Refusals.{most_nest}
use Rattle.tree_rules.specs.Reading.{State, state, refusal_from, refusal_of}
use Rattle.tree_rules.specs.declared.machine.Open.{Open}
use Rattle.tree_rules.specs.declared.machine.Open.TheVariants.{Brace}
use Rattle.tree_rules.specs.declared.machine.Mode.{Mode}
use Rattle.tree_rules.specs.declared.machine.Mode.TheVariants.{AtLine, AtFactor, BehindFactor}
use Rattle.tree_reader.specs.Seen.{tokens_at}
use Rattle.arena_tree.specs.Parts.{IsPassed, IsRefusedAt, spelled_at, IsTokenAt, Reads}
use Rattle.arena_tree.specs.StmtsAt.{IsStmtPlaced}
use Rattle.arena_tree.specs.Subtrees.{stmt_row, IsRowBuilt}
use Rattle.tree_nodes.specs.declared.node.Node.{Node}
use Rattle.arena_tree.specs.declared.begin.LineStart.{LineStart}
use Rattle.arena_tree.specs.declared.begin.LineStart.TheVariants as start

-- where a statement may begin, braces alone are open
abbrev pub braces : ℕ → List Open
braces zero = []
braces (suc depth) = Brace ∷ braces depth

-- the states there, and where its expression begins
abbrev pub at_line : ℕ → State
at_line depth = state AtLine (braces depth)

abbrev pub at_value : ℕ → State
at_value depth = state AtFactor (braces depth)

-- as many braces as may be open
pub record Depth : Type 0 where
  pub depth : ℕ
  pub low : depth ≤ most_nest

-- the text is refused in a mode, whatever is open
abbrev pub IsRefusedIn : Mode → List ℕ → ℕ → Type 0
IsRefusedIn mode = IsRefusedAt (state mode)

-- no statement begins there where so many braces are open, or at any depth; and a statement's expression and a block
-- don't end there
abbrev pub NoLineIn : ℕ → List ℕ → ℕ → Type 0
NoLineIn deep bytes at = IsPassed bytes (at_line deep) at → ⊥

abbrev pub NoLine : List ℕ → ℕ → Type 0
NoLine = IsRefusedAt (λ (d : Depth). at_line d.depth)

abbrev pub NoEnd : List ℕ → ℕ → Type 0
NoEnd = IsRefusedAt (λ (depth : ℕ). state BehindFactor (braces depth))

abbrev pub NoBrace : List ℕ → ℕ → Type 0
NoBrace = IsRefusedAt (λ (depth : ℕ). at_line (suc depth))

-- the text ends, or a block does
abbrev pub LinesStop : List Placed → Type 0
LinesStop [] = Unit {0}
LinesStop (t ∷ ts) = t.token ≡ RightBrace

-- the states of a machine with so many braces open, in one form with the others
abbrev pub line_at : ℕ → Unit {0} → State
line_at deep one = at_line deep

pub record IsLine (deep : ℕ) (bytes : List ℕ) (from end : ℕ) (old new : Memory) (n : Node) : Type 0 where
  pub part : Line
  pub long : from + 2 ≤ end
  pub read : Reads bytes from end (spell_line part) (line_at deep) (line_at deep)
  pub open read use *
  pub placed : IsStmtPlaced (line_tree part) old new n

pub record AreLines (deep : ℕ) (bytes : List ℕ) (from end : ℕ) (old new : Memory) (list : Vec Node) : Type 0 where
  pub part : Program
  pub tokens_are : spelled_at bytes from ≡ spell part (spelled_at bytes end)
  pub same : refusal_from (length bytes) (at_line deep) (tokens_at bytes from)
      ≡ refusal_from (length bytes) (at_line deep) (tokens_at bytes end)
  pub built : IsRowBuilt (stmt_row (trees_of part)) old new list
  pub later : from ≤ end
  pub within : end ≤ length bytes

-- a definition's begin
abbrev pub IsLet : List ℕ → ℕ → List ℕ → ℕ → Type 0
IsLet bytes at name behind =
    Reads bytes at behind (λ more. LetKey ∷ Word name ∷ Equals ∷ more) (λ (d : Depth). at_line d.depth) (λ d. at_value d.depth)

-- an expression's begin
abbrev pub ExprStarts : List ℕ → ℕ → Type 0
ExprStarts bytes at = (depth : ℕ) → refusal_from (length bytes) (at_line depth) (tokens_at bytes at)
    ≡ refusal_from (length bytes) (at_value depth) (tokens_at bytes at)

abbrev pub IsLineStart : List ℕ → ℕ → LineStart → Type 0
IsLineStart bytes at (start.Let begin end behind) = IsLet bytes at (slice_range bytes begin end) behind
    × (at < behind) × (behind ≤ length bytes)
    × (begin ≤ end) × (end ≤ length bytes) × (at ≤ begin) × (end ≤ behind)
    × ((place : ℕ) × IsTokenAt bytes place (Word (slice_range bytes begin end)) end)
IsLineStart bytes at (start.Block behind) = IsTokenAt bytes at LeftBrace behind
IsLineStart bytes at start.Expr = ExprStarts bytes at
IsLineStart bytes at start.End = LinesStop (tokens_at bytes at)

-- a statement was read and placed, or none begins here and nothing was done
abbrev pub LineOrStop : ℕ → List ℕ → ℕ → Memory → Memory → Node → Option ℕ → Type 0
LineOrStop deep bytes at old new n None = LinesStop (tokens_at bytes at) × (new ≡ old)
LineOrStop deep bytes at old new n (Some end) = IsLine deep bytes at end old new n

-- The whole text is a program that isn't refused, and its statements are in a list.
pub record IsProgramRead (bytes : List ℕ) (old new : Memory) (list : Vec Node) : Type 0 where
  pub part : Program
  pub tokens_are : without_places (tokens bytes) ≡ spell part []
  pub passed : refusal_of bytes ≡ None
  pub built : IsRowBuilt (stmt_row (trees_of part)) old new list
