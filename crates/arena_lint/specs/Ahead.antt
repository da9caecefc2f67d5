-- What lies ahead in the text of a program: the names of an expression, and statements.
use Rattle.std.specs.Prelude.{◌≡◌, ℕ, List, [], ◌∷◌}
use Rattle.std.specs.List.{AllByRecursion}
use Rattle.tree_rules.specs.Tokens.{Token, LetKey, Word, Semicolon, RightBrace}
use Rattle.tree_rules.specs.Trees.{IsName, Stmts, NoStmts, Then, IsStmt, AreStmts}
use Rattle.tree_rules.specs.Grammar.{Line, spell_line, line_tree}
use Rattle.arena_tree.specs.Parts.{spelled_at}

-- the tokens have these names before the first semicolon, and these tokens behind it
abbrev pub HaveNames : List Token → List (List ℕ) → List Token → Type 0
HaveNames [] names behind = ⊥
HaveNames (LetKey ∷ ts) names behind = ⊥
HaveNames (Semicolon ∷ ts) names behind = (names ≡ []) × (ts ≡ behind)
HaveNames (Word bytes ∷ ts) names behind = (rest : List (List ℕ)) × (names ≡ bytes ∷ rest) × HaveNames ts rest behind
HaveNames (t ∷ ts) names behind = HaveNames ts names behind

-- An expression, or the rest of one, and the semicolon behind it.
pub record NamesAhead (bytes : List ℕ) (at : ℕ) : Type 0 where
  pub names : List (List ℕ)
  pub behind : List Token
  pub tokens_are : HaveNames (spelled_at bytes at) names behind
  pub good : AllByRecursion IsName names

-- One statement.
pub record LineAhead (bytes : List ℕ) (at : ℕ) : Type 0 where
  pub line : Line
  pub behind : List Token
  pub tokens_are : spelled_at bytes at ≡ spell_line line behind
  pub good : IsStmt (line_tree line)

-- ---- Several statements, up to the end of their block or of the text

abbrev pub spell_lines : List Line → List Token → List Token
spell_lines [] more = more
spell_lines (l ∷ ls) more = spell_line l (spell_lines ls more)

abbrev pub line_trees : List Line → Stmts
line_trees [] = NoStmts
line_trees (l ∷ ls) = Then (line_tree l) (line_trees ls)

abbrev pub AreEnded : List Token → Type 0
AreEnded [] = Unit {0}
AreEnded (RightBrace ∷ ts) = Unit {0}
AreEnded (t ∷ ts) = ⊥

pub record LinesAhead (bytes : List ℕ) (at : ℕ) : Type 0 where
  pub lines : List Line
  pub behind : List Token
  pub tokens_are : spelled_at bytes at ≡ spell_lines lines behind
  pub ended : AreEnded behind
  pub good : AreStmts (line_trees lines)
