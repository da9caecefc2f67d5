-- Places in a program that isn't read to its end, and what surrounds them.
use Rattle.std.specs.Prelude.{ℕ, List, ◌∷◌}
use Rattle.tree_rules.specs.Tokens.{Token, LetKey, Word, Plus, Minus, Star, LeftParen, LeftBrace, Equals}
use Rattle.tree_rules.specs.Grammar.{Factors, Terms, Program, spell_factors, spell_terms, spell}

-- statements before a statement's place, and the blocks around it
pub data LineHole : Type 0 where
  InProgram : (p : Program) → LineHole
  InBlock : (p : Program) (h : LineHole) → LineHole

-- whose expression it is
pub data Owner : Type 0 where
  LetOf : (name : List ℕ) → Owner
  ShowOf : Owner

mutual
  -- the place of a factor: the first of a term, after factors, or after a sign
  pub data FactorHole : Type 0 where
    First : (h : TermHole) → FactorHole
    Behind : (t : Factors) (h : TermHole) → FactorHole
    Signed : (h : FactorHole) → FactorHole

  pub data TermHole : Type 0 where
    FirstTerm : (h : ExprHole) → TermHole
    ToAdd : (s : Terms) (h : ExprHole) → TermHole
    ToTake : (s : Terms) (h : ExprHole) → TermHole

  pub data ExprHole : Type 0 where
    Within : (h : FactorHole) → ExprHole
    Of : (owner : Owner) (h : LineHole) → ExprHole

-- ---- The tokens before a place, and more after them

abbrev pub before_line : LineHole → List Token → List Token
before_line (InProgram p) more = spell p more
before_line (InBlock p h) more = before_line h (LeftBrace ∷ spell p more)

abbrev pub owner_tokens : Owner → List Token → List Token
owner_tokens (LetOf name) more = LetKey ∷ Word name ∷ Equals ∷ more
owner_tokens ShowOf more = more

abbrev mutual
  pub before_factor : FactorHole → List Token → List Token
  before_factor (First h) more = before_term h more
  before_factor (Behind t h) more = before_term h (spell_factors t (Star ∷ more))
  before_factor (Signed h) more = before_factor h (Minus ∷ more)

  pub before_term : TermHole → List Token → List Token
  before_term (FirstTerm h) more = before_expr h more
  before_term (ToAdd s h) more = before_expr h (spell_terms s (Plus ∷ more))
  before_term (ToTake s h) more = before_expr h (spell_terms s (Minus ∷ more))

  pub before_expr : ExprHole → List Token → List Token
  before_expr (Within h) more = before_factor h (LeftParen ∷ more)
  before_expr (Of owner h) more = before_line h (owner_tokens owner more)
