-- The machine accepts each program, and holds no more open than its nesting.
use Rattle.std.proofs.Common.{◌≡◌, ℕ, ◌+◌, ◌≤◌, cond, Option, Some, None, List, [], ◌∷◌, length, refl, ap, ◌∙◌, arith}
use Rattle.std.specs.Prelude.{nat_le}
use Rattle.std.proofs.lemmas.Bool.Decides.{nat_tests}
use Rattle.tree_rules.specs.Tokens.{Token, LetKey, Word, Number, Plus, Minus, Star, LeftParen, RightParen, LeftBrace, RightBrace, Equals, Semicolon}
use Rattle.tree_rules.specs.Grammar.{Factor, ANumber, AName, InParens, Negated, Factors, OneFactor, Times, Terms, OneTerm, Added, Taken, Line, LetLine, ShowLine, BlockLine, Program, Empty, Next, spell_factor, spell_factors, spell_terms, spell_line, spell, factor_nest, factors_nest, terms_nest, line_nest, nest}
use Rattle.tree_rules.specs.declared.machine.Open.{Open}
use Rattle.tree_rules.specs.declared.machine.Open.TheVariants.{Paren, Brace, Sign}
use Rattle.tree_rules.specs.declared.machine.Mode.{Mode}
use Rattle.tree_rules.specs.declared.machine.Mode.TheVariants.{AtLine, AtName, AtEquals, AtFactor, BehindFactor}
use Rattle.tree_rules.specs.Reading.{State, state, signs_ended, step, step_in}

-- the state after tokens, where at most this is ever open
abbrev pub kept : ℕ → Option State → Option State
kept most None = None
kept most (Some s) = cond (nat_le (length s.opens) most) (Some s) None

abbrev pub and_then : Option State → (State → Option State) → Option State
and_then None go = None
and_then (Some s) go = go s

unfoldable pub goes : ℕ → State → List Token → Option State
goes most s [] = Some s
goes most s (t ∷ ts) = and_then (kept most (step s t)) (λ next. goes most next ts)

pub goes_step : (most : ℕ) (s : State) (t : Token) (ts : List Token) (next : State) → step s t ≡ Some next → length next.opens ≤ most
    → goes most s (t ∷ ts) ≡ goes most next ts
unfolding goes
goes_step most s t ts next is low = grind (arith, nat_tests)

goes_on : (most : ℕ) (mode : Mode) (opens : List Open) (t : Token) (ts : List Token) (next : State)
    → step_in mode opens t ≡ Some next → length next.opens ≤ most → goes most (state mode opens) (t ∷ ts) ≡ goes most next ts
goes_on most mode opens = goes_step most (state mode opens)

pub ended_length : (opens : List Open) → length (signs_ended opens) ≤ length opens
ended_length (Sign ∷ opens) = omega (arith, ended_length opens)
ended_length _ = omega arith

pub ended_twice : (opens : List Open) → signs_ended (signs_ended opens) ≡ signs_ended opens
ended_twice (Sign ∷ opens) = ended_twice opens
ended_twice _ = refl

-- an operator, and one part more
part_goes : (most : ℕ) (opens : List Open) (t : Token) (part more : List Token)
    → step_in BehindFactor (signs_ended opens) t ≡ Some (state AtFactor (signs_ended opens)) → length opens ≤ most
    → goes most (state AtFactor (signs_ended opens)) part ≡ goes most (state BehindFactor (signs_ended (signs_ended opens))) more
    → goes most (state BehindFactor (signs_ended opens)) (t ∷ part) ≡ goes most (state BehindFactor (signs_ended opens)) more
part_goes most opens t part more is low goes' =
    goes_on most BehindFactor (signs_ended opens) t part _ is (omega (arith, ended_length opens, low)) ∙ goes'
    ∙ ap (λ os. goes most (state BehindFactor os) more) (ended_twice opens)

mutual
  pub factor_goes : (f : Factor) (most : ℕ) (opens : List Open) (more : List Token) → factor_nest f + length opens ≤ most
      → goes most (state AtFactor opens) (spell_factor f more) ≡ goes most (state BehindFactor (signs_ended opens)) more
  factor_goes (ANumber n) most opens more low = goes_on most AtFactor opens (Number n) more _ refl (omega (arith, ended_length opens))
  factor_goes (AName bytes) most opens more low = goes_on most AtFactor opens (Word bytes) more _ refl (omega (arith, ended_length opens))
  factor_goes (InParens s) most opens more low =
      goes_on most AtFactor opens LeftParen _ _ refl (omega arith) ∙ terms_go s most (Paren ∷ opens) (RightParen ∷ more) (omega arith)
      ∙ goes_on most BehindFactor (Paren ∷ opens) RightParen more _ refl (omega (arith, ended_length opens))
  factor_goes (Negated f) most opens more low =
      goes_on most AtFactor opens Minus _ _ refl (omega arith) ∙ factor_goes f most (Sign ∷ opens) more (omega arith)

  pub factors_go : (t : Factors) (most : ℕ) (opens : List Open) (more : List Token) → factors_nest t + length opens ≤ most
      → goes most (state AtFactor opens) (spell_factors t more) ≡ goes most (state BehindFactor (signs_ended opens)) more
  factors_go (OneFactor f) most opens more low = factor_goes f most opens more low
  factors_go (Times t f) most opens more low =
      factors_go t most opens (Star ∷ spell_factor f more) (omega arith)
      ∙ part_goes most opens Star _ more refl (omega arith) (factor_goes f most (signs_ended opens) more (omega (arith, ended_length opens)))

  pub terms_go : (s : Terms) (most : ℕ) (opens : List Open) (more : List Token) → terms_nest s + length opens ≤ most
      → goes most (state AtFactor opens) (spell_terms s more) ≡ goes most (state BehindFactor (signs_ended opens)) more
  terms_go (OneTerm t) most opens more low = factors_go t most opens more low
  terms_go (Added s t) most opens more low =
      terms_go s most opens (Plus ∷ spell_factors t more) (omega arith)
      ∙ part_goes most opens Plus _ more refl (omega arith) (factors_go t most (signs_ended opens) more (omega (arith, ended_length opens)))
  terms_go (Taken s t) most opens more low =
      terms_go s most opens (Minus ∷ spell_factors t more) (omega arith)
      ∙ part_goes most opens Minus _ more refl (omega arith) (factors_go t most (signs_ended opens) more (omega (arith, ended_length opens)))

-- what holds of all tokens that begin as an expression does holds of an expression's
module _ (P : List Token → Type 0) (number : (n : ℕ) (ts : List Token) → P (Number n ∷ ts))
    (word : (bytes : List ℕ) (ts : List Token) → P (Word bytes ∷ ts)) (paren : (ts : List Token) → P (LeftParen ∷ ts))
    (minus : (ts : List Token) → P (Minus ∷ ts)) where
  factor_begins : (f : Factor) (more : List Token) → P (spell_factor f more)
  factor_begins (ANumber n) more = number n more
  factor_begins (AName bytes) more = word bytes more
  factor_begins (InParens s) more = paren (spell_terms s (RightParen ∷ more))
  factor_begins (Negated f) more = minus (spell_factor f more)

  factors_begin : (t : Factors) (more : List Token) → P (spell_factors t more)
  factors_begin (OneFactor f) more = factor_begins f more
  factors_begin (Times t f) more = factors_begin t (Star ∷ spell_factor f more)

  pub terms_begin : (s : Terms) (more : List Token) → P (spell_terms s more)
  terms_begin (OneTerm t) more = factors_begin t more
  terms_begin (Added s t) more = terms_begin s (Plus ∷ spell_factors t more)
  terms_begin (Taken s t) more = terms_begin s (Minus ∷ spell_factors t more)

-- where a statement may begin, an expression is read as after an equals sign
value_begins : (s : Terms) (most : ℕ) (opens : List Open) (more : List Token)
    → goes most (state AtLine opens) (spell_terms s more) ≡ goes most (state AtFactor opens) (spell_terms s more)
unfolding goes
value_begins s most opens = terms_begin (λ ts. goes most (state AtLine opens) ts ≡ goes most (state AtFactor opens) ts) (λ n ts. refl)
    (λ bytes ts. refl) (λ ts. refl) (λ ts. refl) s

-- what is open where a statement may begin: braces alone
abbrev pub AreBraces : List Open → Type 0
AreBraces [] = Unit {0}
AreBraces (Brace ∷ opens) = AreBraces opens
AreBraces opens = ⊥

line_ends : (most : ℕ) (opens : List Open) (more : List Token) → AreBraces opens → length opens ≤ most
    → goes most (state BehindFactor (signs_ended opens)) (Semicolon ∷ more) ≡ goes most (state AtLine opens) more
line_ends most [] more h low = goes_on most BehindFactor [] Semicolon more (state AtLine []) refl low
line_ends most (Brace ∷ opens) more h low = goes_on most BehindFactor (Brace ∷ opens) Semicolon more (state AtLine (Brace ∷ opens)) refl low
line_ends most _ more h low = absurd h

mutual
  pub line_goes : (l : Line) (most : ℕ) (opens : List Open) (more : List Token) → AreBraces opens → line_nest l + length opens ≤ most
      → goes most (state AtLine opens) (spell_line l more) ≡ goes most (state AtLine opens) more
  line_goes (LetLine name s) most opens more h low =
      goes_on most AtLine opens LetKey _ _ refl (omega arith) ∙ goes_on most AtName opens (Word name) _ _ refl (omega arith)
      ∙ goes_on most AtEquals opens Equals _ _ refl (omega arith) ∙ terms_go s most opens (Semicolon ∷ more) low
      ∙ line_ends most opens more h (omega arith)
  line_goes (ShowLine s) most opens more h low =
      value_begins s most opens (Semicolon ∷ more) ∙ terms_go s most opens (Semicolon ∷ more) low ∙ line_ends most opens more h (omega arith)
  line_goes (BlockLine p) most opens more h low =
      goes_on most AtLine opens LeftBrace _ _ refl (omega arith)
      ∙ program_goes p most (Brace ∷ opens) (RightBrace ∷ more) h (omega arith)
      ∙ goes_on most AtLine (Brace ∷ opens) RightBrace more _ refl (omega arith)

  pub program_goes : (p : Program) (most : ℕ) (opens : List Open) (more : List Token) → AreBraces opens → nest p + length opens ≤ most
      → goes most (state AtLine opens) (spell p more) ≡ goes most (state AtLine opens) more
  program_goes Empty most opens more h low = refl
  program_goes (Next p l) most opens more h low =
      program_goes p most opens (spell_line l more) h (omega arith) ∙ line_goes l most opens more h (omega arith)
