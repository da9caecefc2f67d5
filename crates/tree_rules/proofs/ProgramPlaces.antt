-- Each place of a token is in a program.
use Rattle.std.proofs.lemmas.Bool.Decides.{nat_tests}
use Rattle.std.proofs.Common.{◌≡◌, ℕ, ◌≤◌, Some, List, [], ◌∷◌, ◌++◌, length, refl, sym, ap, ◌∙◌, arith, append_assoc}
use Rattle.tree_rules.specs.Tokens.{Token, Word, Number, Equals, Semicolon}
use Rattle.tree_rules.specs.Grammar.{ANumber, OneFactor, Terms, OneTerm, LetLine, Program, Empty, spell, nest, BeginsWithin}
use Rattle.tree_rules.specs.Reading.{State, step, start}
use Rattle.tree_rules.specs.Places.{InProgram}
use Rattle.tree_rules.proofs.Holes.{fill_line, fill_factor, fill_term, close_line, close_factor, close_term, done, line_filled, done_spelled, factor_filled, term_filled, line_fits, done_fits, factor_fits, term_fits}
use Rattle.tree_rules.proofs.Places.{Place, LinePlace, NamePlace, EqualsPlace, FactorPlace, BehindPlace, state_at, before, PlaceFits, follows}

-- ---- Each place is in a program

-- what ends the program, and the program
abbrev more_at : Place → List Token
more_at (LinePlace h) = close_line h
more_at (NamePlace h) = Word (97 ∷ []) ∷ Equals ∷ Number 0 ∷ Semicolon ∷ close_line h
more_at (EqualsPlace h name) = Equals ∷ Number 0 ∷ Semicolon ∷ close_line h
more_at (FactorPlace h) = Number 0 ∷ close_factor h
more_at (BehindPlace t h) = close_term h

abbrev zero_terms : Terms
zero_terms = OneTerm (OneFactor (ANumber 0))

abbrev program_at : Place → Program
program_at (LinePlace h) = done h
program_at (NamePlace h) = fill_line h (LetLine (97 ∷ []) zero_terms)
program_at (EqualsPlace h name) = fill_line h (LetLine name zero_terms)
program_at (FactorPlace h) = fill_factor h (ANumber 0)
program_at (BehindPlace t h) = fill_term h t

program_spelled : (c : Place) → spell (program_at c) [] ≡ before c (more_at c)
program_spelled c = grind (arith, nat_tests, done_spelled, line_filled, factor_filled, term_filled)

program_fits : (c : Place) (most : ℕ) → PlaceFits most c → nest (program_at c) ≤ most
program_fits (LinePlace h) most fits = done_fits h most fits.1
program_fits (NamePlace h) most fits = line_fits h (LetLine (97 ∷ []) zero_terms) most fits.1 (omega (arith, fits.0))
program_fits (EqualsPlace h name) most fits = line_fits h (LetLine name zero_terms) most fits.1 (omega (arith, fits.0))
program_fits (FactorPlace h) most fits = factor_fits h (ANumber 0) most fits.1 (omega (arith, fits.0))
program_fits (BehindPlace t h) most fits = term_fits h t most fits.1 fits.0

-- Tokens lead to a state: that of a place after them.
pub record Leads (most : ℕ) (tokens : List Token) (s : State) : Type 0 where
  pub place : Place
  pub state_is : state_at place ≡ s
  pub before_is : (more : List Token) → before place more ≡ tokens ++ more
  pub fits : PlaceFits most place

pub leads_first : (most : ℕ) → Leads most [] start
leads_first most = record {
  place = LinePlace (InProgram Empty);
  state_is = refl;
  before_is = λ more. refl;
  fits = (omega arith, omega arith);
}

pub leads_on : (most : ℕ) (tokens : List Token) (t : Token) (s next : State) → Leads most tokens s → step s t ≡ Some next
    → length next.opens ≤ most → Leads most (tokens ++ t ∷ []) next
leads_on most tokens t s next l e low =
    let c = follows most l.place t next (ap (λ (s : State). step s t) l.state_is ∙ e) in
    record {
      place = c.place;
      state_is = c.state_is;
      before_is = λ more. c.before_is more ∙ l.before_is (t ∷ more) ∙ sym (append_assoc tokens (t ∷ []) more);
      fits = c.fits l.fits low;
    }

pub leads_begin : (most : ℕ) (tokens : List Token) (s : State) → Leads most tokens s → BeginsWithin most tokens
leads_begin most tokens s l = record {
  program = program_at l.place;
  more = more_at l.place;
  tokens_are = program_spelled l.place ∙ l.before_is (more_at l.place);
  within = program_fits l.place most l.fits;
}
