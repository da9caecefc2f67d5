-- Each state that the machine reaches is that of a place in a program.
use Rattle.std.proofs.lemmas.Bool.Decides.{nat_tests}
use Rattle.std.proofs.Common.{◌≡◌, ℕ, ◌+◌, ◌≤◌, Some, List, ◌∷◌, length, refl, sym, ap, ◌∙◌, arith}
use Rattle.std.proofs.lemmas.Option.{none-some, same_Some}
use Rattle.tree_rules.specs.Tokens.{Token, LetKey, Word, Number, Plus, Minus, Star, LeftParen, RightParen, LeftBrace, RightBrace, Equals, Semicolon}
use Rattle.tree_rules.specs.Grammar.{Factor, ANumber, AName, InParens, Negated, Factors, OneFactor, Times, Terms, OneTerm, Added, Taken, Line, LetLine, ShowLine, BlockLine, Empty, Next, spell_factor, spell_factors, spell_terms, spell_line, factor_nest, factors_nest, terms_nest, line_nest}
use Rattle.tree_rules.specs.declared.machine.Mode.TheVariants.{AtLine, AtName, AtEquals, AtFactor, BehindFactor}
use Rattle.tree_rules.specs.Reading.{State, state, signs_ended, step, step_in, factor_step, close_paren, close_brace, end_line}
use Rattle.tree_rules.specs.Places.{LineHole, InProgram, InBlock, Owner, LetOf, ShowOf, FactorHole, First, Behind, Signed, TermHole, FirstTerm, ToAdd, ToTake, ExprHole, Within, Of, before_line, owner_tokens, before_factor, before_term, before_expr}
use Rattle.tree_rules.proofs.Holes.{open_at_line, open_at_factor, open_at_term, open_at_expr, LineFits, FactorFits, TermFits, ExprFits, owned}

-- the place up to which a program has been read
pub data Place : Type 0 where
  LinePlace : (h : LineHole) → Place
  NamePlace : (h : LineHole) → Place
  EqualsPlace : (h : LineHole) (name : List ℕ) → Place
  FactorPlace : (h : FactorHole) → Place
  BehindPlace : (t : Factors) (h : TermHole) → Place

abbrev pub state_at : Place → State
state_at (LinePlace h) = state AtLine (open_at_line h)
state_at (NamePlace h) = state AtName (open_at_line h)
state_at (EqualsPlace h name) = state AtEquals (open_at_line h)
state_at (FactorPlace h) = state AtFactor (open_at_factor h)
state_at (BehindPlace t h) = state BehindFactor (open_at_term h)

-- the tokens before it, and more after them
abbrev pub before : Place → List Token → List Token
before (LinePlace h) more = before_line h more
before (NamePlace h) more = before_line h (LetKey ∷ more)
before (EqualsPlace h name) more = before_line h (LetKey ∷ Word name ∷ more)
before (FactorPlace h) more = before_factor h more
before (BehindPlace t h) more = before_term h (spell_factors t more)

abbrev pub PlaceFits : ℕ → Place → Type 0
PlaceFits most (LinePlace h) = (length (open_at_line h) ≤ most) × LineFits most h
PlaceFits most (NamePlace h) = (length (open_at_line h) ≤ most) × LineFits most h
PlaceFits most (EqualsPlace h name) = (length (open_at_line h) ≤ most) × LineFits most h
PlaceFits most (FactorPlace h) = (length (open_at_factor h) ≤ most) × FactorFits h most
PlaceFits most (BehindPlace t h) = (factors_nest t + length (open_at_term h) ≤ most) × TermFits h most

-- ---- What a finished part leaves

abbrev pub factor_done : FactorHole → Factor → Place
factor_done (First h) f = BehindPlace (OneFactor f) h
factor_done (Behind t h) f = BehindPlace (Times t f) h
factor_done (Signed h) f = factor_done h (Negated f)

line_settled : (h : LineHole) → signs_ended (open_at_line h) ≡ open_at_line h
line_settled (InProgram p) = refl
line_settled (InBlock p h) = refl

expr_settled : (h : ExprHole) → signs_ended (open_at_expr h) ≡ open_at_expr h
expr_settled (Within h) = refl
expr_settled (Of owner h) = line_settled h

term_settled : (h : TermHole) → signs_ended (open_at_term h) ≡ open_at_term h
term_settled (FirstTerm h) = expr_settled h
term_settled (ToAdd s h) = expr_settled h
term_settled (ToTake s h) = expr_settled h

factor_done_state : (h : FactorHole) (f : Factor) → state_at (factor_done h f) ≡ state BehindFactor (signs_ended (open_at_factor h))
factor_done_state (First h) f = ap (state BehindFactor) (sym (term_settled h))
factor_done_state (Behind t h) f = ap (state BehindFactor) (sym (term_settled h))
factor_done_state (Signed h) f = factor_done_state h (Negated f)

factor_done_before : (h : FactorHole) (f : Factor) (more : List Token) → before (factor_done h f) more ≡ before_factor h (spell_factor f
    more)
factor_done_before (Signed h) f more = factor_done_before h (Negated f) more
factor_done_before _ f more = refl

factor_done_fits : (h : FactorHole) (f : Factor) (most : ℕ) → FactorFits h most → factor_nest f + length (open_at_factor h) ≤ most
    → PlaceFits most (factor_done h f)
factor_done_fits (First h) f most fits low = (low, fits)
factor_done_fits (Behind t h) f most fits low = (omega (arith, fits.0), fits.1)
factor_done_fits (Signed h) f most fits low = factor_done_fits h (Negated f) most fits.1 (omega arith)

-- the terms that a term's end makes, and what surrounds them
abbrev pub terms_done : TermHole → Factors → Terms
terms_done (FirstTerm h) t = OneTerm t
terms_done (ToAdd s h) t = Added s t
terms_done (ToTake s h) t = Taken s t

abbrev pub around : TermHole → ExprHole
around (FirstTerm h) = h
around (ToAdd s h) = h
around (ToTake s h) = h

terms_before : (h : TermHole) (t : Factors) (more : List Token)
    → before_expr (around h) (spell_terms (terms_done h t) more) ≡ before_term h (spell_factors t more)
terms_before h t more = grind (arith, nat_tests)

terms_open : (h : TermHole) → open_at_expr (around h) ≡ open_at_term h
terms_open h = grind (arith, nat_tests)

terms_fit : (h : TermHole) (t : Factors) (most : ℕ) → factors_nest t + length (open_at_term h) ≤ most → TermFits h most
    → (terms_nest (terms_done h t) + length (open_at_expr (around h)) ≤ most) × ExprFits (around h) most
terms_fit h t most low fits = grind (arith, nat_tests)

abbrev pub line_added : LineHole → Line → LineHole
line_added (InProgram p) l = InProgram (Next p l)
line_added (InBlock p h) l = InBlock (Next p l) h

line_added_before : (h : LineHole) (l : Line) (more : List Token) → before_line (line_added h l) more ≡ before_line h (spell_line l more)
line_added_before h l more = grind (arith, nat_tests)

line_added_open : (h : LineHole) (l : Line) → open_at_line (line_added h l) ≡ open_at_line h
line_added_open h l = grind (arith, nat_tests)

line_added_fits : (h : LineHole) (l : Line) (most : ℕ) → LineFits most h → line_nest l + length (open_at_line h) ≤ most
    → LineFits most (line_added h l)
line_added_fits h l most fits low = grind (arith, nat_tests)

-- ---- The place after one more token

-- A place of this state, with these tokens before it.
pub record Comes (most : ℕ) (tokens : List Token → List Token) (Fitted : Type 0) (next : State) : Type 0 where
  pub place : Place
  pub state_is : state_at place ≡ next
  pub before_is : (more : List Token) → before place more ≡ tokens more
  pub fits : Fitted → length next.opens ≤ most → PlaceFits most place

comes : {most : ℕ} {tokens : List Token → List Token} {Fitted : Type 0} {next : State} (place : Place)
    → Some (state_at place) ≡ Some next → ((more : List Token) → before place more ≡ tokens more)
    → (Fitted → length (state_at place).opens ≤ most → PlaceFits most place) → Comes most tokens Fitted next
comes {most} {next = x1} place e before_is fits = grind (arith, nat_tests, same_Some)

comes_factor : (most : ℕ) (h : FactorHole) (f : Factor) (next : State) → Some (state BehindFactor (signs_ended (open_at_factor h))) ≡
    Some next
    → Comes most (λ more. before_factor h (spell_factor f more)) (FactorFits h most × (factor_nest f + length (open_at_factor h) ≤ most))
    next
comes_factor most h f next e = comes (factor_done h f) (ap Some (factor_done_state h f) ∙ e) (factor_done_before h f)
    (λ fits low. factor_done_fits h f most fits.0 fits.1)

-- at another place, with other premises that come to the same
comes_as : (most : ℕ) (tokens others : List Token → List Token) (Fitted Given : Type 0) (next : State)
    → ((more : List Token) → tokens more ≡ others more) → (Given → Fitted) → Comes most tokens Fitted next → Comes most others Given next
comes_as most tokens others Fitted Given next same as' c = grind (arith, nat_tests)

at_factor : (most : ℕ) (h : FactorHole) (t : Token) (next : State) → factor_step t (open_at_factor h) ≡ Some next
    → Comes most (λ more. before_factor h (t ∷ more)) (PlaceFits most (FactorPlace h)) next
at_factor most h (Number n) next e = comes_as most _ _ _ _ next (λ more. refl) (λ fits. (fits.1, omega (arith, fits.0))) (comes_factor
    most h (ANumber n) next e)
at_factor most h (Word bytes) next e = comes_as most _ _ _ _ next (λ more. refl) (λ fits. (fits.1, omega (arith, fits.0))) (comes_factor
    most h (AName bytes) next e)
at_factor most h LeftParen next e = comes (FactorPlace (First (FirstTerm (Within h)))) e (λ more. refl) (λ fits low. (low, (low, fits.1)))
at_factor most h Minus next e = comes (FactorPlace (Signed h)) e (λ more. refl) (λ fits low. (low, (low, fits.1)))
at_factor most h _ next e = absurd (none-some next e)

-- an expression begins where a statement may
abbrev pub shown : LineHole → FactorHole
shown h = First (FirstTerm (Of ShowOf h))

at_brace : (most : ℕ) (h : LineHole) (next : State) → close_brace (open_at_line h) ≡ Some next
    → Comes most (λ more. before_line h (RightBrace ∷ more)) (PlaceFits most (LinePlace h)) next
at_brace most (InProgram p) next e = absurd (none-some next e)
at_brace most (InBlock p h) next e = comes (LinePlace (line_added h (BlockLine p)))
    (ap (λ os. Some (state AtLine os)) (line_added_open h (BlockLine p)) ∙ e) (line_added_before h (BlockLine p))
    (λ fits low. (low, line_added_fits h (BlockLine p) most fits.1.1 (omega (arith, fits.1.0))))

at_line : (most : ℕ) (h : LineHole) (t : Token) (next : State) → step_in AtLine (open_at_line h) t ≡ Some next
    → Comes most (λ more. before_line h (t ∷ more)) (PlaceFits most (LinePlace h)) next
at_line most h LetKey next e = comes (NamePlace h) e (λ more. refl) (λ fits low. fits)
at_line most h LeftBrace next e = comes (LinePlace (InBlock Empty h)) e (λ more. refl) (λ fits low. (low, (omega (arith, low), fits.1)))
at_line most h RightBrace next e = at_brace most h next e
at_line most h (Word bytes) next e = at_factor most (shown h) (Word bytes) next e
at_line most h (Number n) next e = at_factor most (shown h) (Number n) next e
at_line most h LeftParen next e = at_factor most (shown h) LeftParen next e
at_line most h Minus next e = at_factor most (shown h) Minus next e
at_line most h _ next e = absurd (none-some next e)

at_name : (most : ℕ) (h : LineHole) (t : Token) (next : State) → step_in AtName (open_at_line h) t ≡ Some next
    → Comes most (λ more. before_line h (LetKey ∷ t ∷ more)) (PlaceFits most (LinePlace h)) next
at_name most h (Word bytes) next e = comes (EqualsPlace h bytes) e (λ more. refl) (λ fits low. fits)
at_name most h _ next e = absurd (none-some next e)

at_equals : (most : ℕ) (h : LineHole) (name : List ℕ) (t : Token) (next : State) → step_in AtEquals (open_at_line h) t ≡ Some next
    → Comes most (λ more. before_line h (LetKey ∷ Word name ∷ t ∷ more)) (PlaceFits most (LinePlace h)) next
at_equals most h name Equals next e =
    comes (FactorPlace (First (FirstTerm (Of (LetOf name) h)))) e (λ more. refl) (λ fits low. fits)
at_equals most h name _ next e = absurd (none-some next e)

abbrev TermsFit : ExprHole → Terms → ℕ → Type 0
TermsFit h s most = (terms_nest s + length (open_at_expr h) ≤ most) × ExprFits h most

no_line_paren : (h : LineHole) (next : State) → close_paren (open_at_line h) ≡ Some next → ⊥
no_line_paren (InProgram p) next e = none-some next e
no_line_paren (InBlock p h) next e = none-some next e

closes_paren : (most : ℕ) (h : ExprHole) (s : Terms) (next : State) → close_paren (open_at_expr h) ≡ Some next
    → Comes most (λ more. before_expr h (spell_terms s (RightParen ∷ more))) (TermsFit h s most) next
closes_paren most (Within h) s next e =
    comes_as most _ _ _ _ next (λ more. refl) (λ fits. (fits.1.1, omega (arith, fits.0))) (comes_factor most h (InParens s) next e)
closes_paren most (Of owner h) s next e = absurd (no_line_paren h next e)

line_end : (h : LineHole) → end_line (open_at_line h) ≡ Some (state AtLine (open_at_line h))
line_end (InProgram p) = refl
line_end (InBlock p h) = refl

owned_before : (owner : Owner) (h : LineHole) (s : Terms) (more : List Token)
    → before_line (line_added h (owned owner s)) more ≡ before_line h (owner_tokens owner (spell_terms s (Semicolon ∷ more)))
owned_before owner h s more = grind (arith, nat_tests, line_added_before)

owned_fits : (owner : Owner) (h : LineHole) (s : Terms) (most : ℕ) → LineFits most h → terms_nest s + length (open_at_line h) ≤ most
    → LineFits most (line_added h (owned owner s))
owned_fits (LetOf name) h s most fits low = line_added_fits h (LetLine name s) most fits low
owned_fits ShowOf h s most fits low = line_added_fits h (ShowLine s) most fits low

ends_line : (most : ℕ) (h : ExprHole) (s : Terms) (next : State) → end_line (open_at_expr h) ≡ Some next
    → Comes most (λ more. before_expr h (spell_terms s (Semicolon ∷ more))) (TermsFit h s most) next
ends_line most (Within h) s next e = absurd (none-some next e)
ends_line most (Of owner h) s next e = comes (LinePlace (line_added h (owned owner s)))
    (ap (λ os. Some (state AtLine os)) (line_added_open h (owned owner s)) ∙ sym (line_end h) ∙ e) (owned_before owner h s)
    (λ fits low. (low, owned_fits owner h s most fits.1 fits.0))

at_behind : (most : ℕ) (f : Factors) (h : TermHole) (t : Token) (next : State) → step_in BehindFactor (open_at_term h) t ≡ Some next
    → Comes most (λ more. before_term h (spell_factors f (t ∷ more))) (PlaceFits most (BehindPlace f h)) next
at_behind most f h Star next e = comes (FactorPlace (Behind f h)) e (λ more. refl) (λ fits low. (low, (fits.0, fits.1)))
at_behind most f h Plus next e = comes (FactorPlace (First (ToAdd (terms_done h f) (around h))))
    (ap (λ os. Some (state AtFactor os)) (terms_open h) ∙ e) (λ more. terms_before h f (Plus ∷ more))
    (λ fits low. (low, terms_fit h f most fits.0 fits.1))
at_behind most f h Minus next e = comes (FactorPlace (First (ToTake (terms_done h f) (around h))))
    (ap (λ os. Some (state AtFactor os)) (terms_open h) ∙ e) (λ more. terms_before h f (Minus ∷ more))
    (λ fits low. (low, terms_fit h f most fits.0 fits.1))
at_behind most f h RightParen next e =
    comes_as most _ _ _ _ next (λ more. terms_before h f (RightParen ∷ more)) (λ fits. terms_fit h f most fits.0 fits.1)
    (closes_paren most (around h) (terms_done h f) next (ap close_paren (terms_open h) ∙ e))
at_behind most f h Semicolon next e =
    comes_as most _ _ _ _ next (λ more. terms_before h f (Semicolon ∷ more)) (λ fits. terms_fit h f most fits.0 fits.1)
    (ends_line most (around h) (terms_done h f) next (ap end_line (terms_open h) ∙ e))
at_behind most f h _ next e = absurd (none-some next e)

pub follows : (most : ℕ) (c : Place) (t : Token) (next : State) → step (state_at c) t ≡ Some next
    → Comes most (λ more. before c (t ∷ more)) (PlaceFits most c) next
follows most (LinePlace h) t next e = at_line most h t next e
follows most (NamePlace h) t next e = at_name most h t next e
follows most (EqualsPlace h name) t next e = at_equals most h name t next e
follows most (FactorPlace h) t next e = at_factor most h t next e
follows most (BehindPlace f h) t next e = at_behind most f h t next e
