-- Where the parser stops for lack of a block: what the text asks for before a place was placed, and what it asks for next
-- wasn't.
use Rattle.std.specs.Prelude.{◌≡◌, ℕ, Option, Some, None, Result, List, [], ◌∷◌, ◌++◌, length}
use Rattle.arena_chunks.specs.Source.{View}
use Rattle.arena_chunks.specs.Answers.{Answer}
use Rattle.arena_store.specs.declared.block.Block.{Block}
use Rattle.arena_items.specs.Asks.{Ask, Fresh, Runs, EndsAt}
use Rattle.tree_rules.specs.Tokens.{Token, LeftBrace, tokens, without_places}
use Rattle.tree_rules.specs.Grammar.{Program, spell}
use Rattle.tree_rules.specs.Places.{LineHole, InProgram, InBlock, LetOf, ShowOf, FactorHole, First, Behind, Signed, TermHole, FirstTerm, ToAdd, ToTake, ExprHole, Within, Of, before_line, before_factor, before_term, before_expr}
use Rattle.arena_tree.specs.Asking.{placed_by, factors_row, terms_row, lines_row, program_asks}
use Rattle.arena_tree.specs.Parts.{spelled_at}
use Rattle.arena_tree.specs.Stops.{OnArena}
use Rattle.arena_tree.specs.declared.stop.Stop.{Stop}

-- ---- What a program asks for before a place in it

unfoldable pub line_before : LineHole → List (Ask ℕ)
line_before (InProgram p) = (lines_row 0 p).asks
line_before (InBlock p h) = line_before h ++ (lines_row (placed_by (line_before h)) p).asks

unfoldable mutual
  pub factor_before : FactorHole → List (Ask ℕ)
  factor_before (First h) = term_before h
  factor_before (Behind t h) = term_before h ++ (factors_row (placed_by (term_before h)) t).asks
  factor_before (Signed h) = factor_before h

  pub term_before : TermHole → List (Ask ℕ)
  term_before (FirstTerm h) = expr_before h
  term_before (ToAdd s h) = expr_before h ++ (terms_row (placed_by (expr_before h)) s).asks
  term_before (ToTake s h) = expr_before h ++ (terms_row (placed_by (expr_before h)) s).asks

  pub expr_before : ExprHole → List (Ask ℕ)
  expr_before (Within h) = factor_before h
  expr_before (Of (LetOf name) h) = line_before h ++ Fresh (length name) 1 ∷ []
  expr_before (Of ShowOf h) = line_before h

-- where the statements of the whole text begin, or those of a block
abbrev pub begin_lines : Option LineHole → List Token → List Token
begin_lines None more = more
begin_lines (Some h) more = before_line h (LeftBrace ∷ more)

abbrev pub lines_before : Option LineHole → List (Ask ℕ)
lines_before None = []
lines_before (Some h) = line_before h

-- ---- Where a part of a text is stopped

-- The text is a program. At this byte it comes to this place in it, and what it asks for before that was placed.
pub record IsUpTo {H : Type 0} (tokens_before : H → List Token → List Token) (asks_before : H → List (Ask ℕ)) (h : H) (bytes : List ℕ)
    (at : ℕ) (program : Program) (first now : View) : Type 0 where
  pub tokens_are : spell program [] ≡ tokens_before h (spelled_at bytes at)
  pub blocks : List Block
  pub ran : Runs (asks_before h) [] first blocks now

-- A part that begins at such a place was read; or the arena had no place for what the program asks for next.
abbrev pub Ends : {H X : Type 0} → (H → List Token → List Token) → (H → List (Ask ℕ)) → List ℕ → ℕ → View → View → Result X Stop → Type 0
Ends {H} tokens_before asks_before bytes at old new result =
    (h : H) (p : Program) (first : View) → IsUpTo tokens_before asks_before h bytes at p first old
    → OnArena result (EndsAt (program_asks 0 p) [] first new)

abbrev pub FactorEnds : {X : Type 0} → List ℕ → ℕ → View → View → Result X Stop → Type 0
FactorEnds = Ends before_factor factor_before

abbrev pub TermEnds : {X : Type 0} → List ℕ → ℕ → View → View → Result X Stop → Type 0
TermEnds = Ends before_term term_before

abbrev pub ExprEnds : {X : Type 0} → List ℕ → ℕ → View → View → Result X Stop → Type 0
ExprEnds = Ends before_expr expr_before

abbrev pub LineEnds : {X : Type 0} → List ℕ → ℕ → View → View → Result X Stop → Type 0
LineEnds = Ends before_line line_before

abbrev pub LinesEnd : {X : Type 0} → List ℕ → ℕ → View → View → Result X Stop → Type 0
LinesEnd = Ends begin_lines lines_before

-- The text is a program. Of the blocks that it asks for, one after another, the arena placed those before one, and this
-- is what it answered to that one.
pub record ProgramEnds (bytes : List ℕ) (old new : View) (answer : Answer) : Type 0 where
  pub program : Program
  pub tokens_are : spell program [] ≡ without_places (tokens bytes)
  pub ends : EndsAt (program_asks 0 program) [] old new answer
