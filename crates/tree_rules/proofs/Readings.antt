-- Tokens are those of one program at most.
use Rattle.std.proofs.lemmas.Bool.Decides.{nat_tests}
use Rattle.std.proofs.Common.{arith, ◌≡◌, ℕ, Option, Some, None, List, [], ◌∷◌, refl, sym, ap, ◌∙◌}
use Rattle.tree_rules.specs.Tokens.{Token, LetKey, Word, Number, Plus, Minus, Star, LeftParen, RightParen, LeftBrace, RightBrace, Equals, Semicolon}
use Rattle.tree_rules.specs.Trees.{Stmts}
use Rattle.tree_rules.specs.Grammar.{Factor, ANumber, AName, InParens, Negated, Factors, OneFactor, Times, Terms, OneTerm, Added, Taken, Line, LetLine, ShowLine, BlockLine, Program, Empty, Next, spell_factor, spell_factors, spell_terms, spell_line, spell, IsProgram, trees_of, nest}
use Rattle.tree_rules.proofs.StepLemmas.{terms_begin}
use Rattle.tree_rules.specs.Places.{LineHole, InProgram, InBlock, Owner, LetOf, ShowOf, FactorHole, First, Behind, Signed, TermHole, FirstTerm, ToAdd, ToTake, ExprHole, Within, Of, before_line, owner_tokens, before_factor, before_term, before_expr}
use Rattle.tree_rules.proofs.Holes.{owned}
use Rattle.tree_rules.proofs.Places.{Place, LinePlace, NamePlace, EqualsPlace, FactorPlace, BehindPlace, factor_done, terms_done, around, line_added, shown}

-- ---- The place after a token, where there is one

unfoldable pub go_factor : Token → FactorHole → Option Place
go_factor (Number n) h = Some (factor_done h (ANumber n))
go_factor (Word bytes) h = Some (factor_done h (AName bytes))
go_factor LeftParen h = Some (FactorPlace (First (FirstTerm (Within h))))
go_factor Minus h = Some (FactorPlace (Signed h))
go_factor _ h = None

unfoldable pub go_brace : LineHole → Option Place
go_brace (InProgram p) = None
go_brace (InBlock p h) = Some (LinePlace (line_added h (BlockLine p)))

unfoldable pub go_line : Token → LineHole → Option Place
unfolding go_factor go_brace
go_line LetKey h = Some (NamePlace h)
go_line LeftBrace h = Some (LinePlace (InBlock Empty h))
go_line RightBrace h = go_brace h
go_line t h = go_factor t (shown h)

unfoldable pub go_name : Token → LineHole → Option Place
go_name (Word bytes) h = Some (EqualsPlace h bytes)
go_name _ h = None

unfoldable pub go_equals : Token → LineHole → List ℕ → Option Place
go_equals Equals h name = Some (FactorPlace (First (FirstTerm (Of (LetOf name) h))))
go_equals _ h name = None

unfoldable pub go_paren : ExprHole → Terms → Option Place
go_paren (Within h) s = Some (factor_done h (InParens s))
go_paren (Of owner h) s = None

unfoldable pub go_end : ExprHole → Terms → Option Place
go_end (Within h) s = None
go_end (Of owner h) s = Some (LinePlace (line_added h (owned owner s)))

unfoldable pub go_behind : Token → Factors → TermHole → Option Place
go_behind Star t h = Some (FactorPlace (Behind t h))
go_behind Plus t h = Some (FactorPlace (First (ToAdd (terms_done h t) (around h))))
go_behind Minus t h = Some (FactorPlace (First (ToTake (terms_done h t) (around h))))
go_behind RightParen t h = go_paren (around h) (terms_done h t)
go_behind Semicolon t h = go_end (around h) (terms_done h t)
go_behind _ t h = None

unfoldable pub go : Place → Token → Option Place
go (LinePlace h) t = go_line t h
go (NamePlace h) t = go_name t h
go (EqualsPlace h name) t = go_equals t h name
go (FactorPlace h) t = go_factor t h
go (BehindPlace f h) t = go_behind t f h

unfoldable pub and_go : Option Place → (Place → Option Place) → Option Place
and_go None f = None
and_go (Some c) f = f c

unfoldable pub reads : Place → List Token → Option Place
reads c [] = Some c
reads c (t ∷ ts) = and_go (go c t) (λ d. reads d ts)

-- ---- Over each part

-- the place after terms
unfoldable pub last_place : Terms → ExprHole → Place
last_place (OneTerm t) h = BehindPlace t (FirstTerm h)
last_place (Added s t) h = BehindPlace t (ToAdd s h)
last_place (Taken s t) h = BehindPlace t (ToTake s h)

pub adds : (s : Terms) (h : ExprHole) (more : List Token) → reads (last_place s h) (Plus ∷ more) ≡ reads (FactorPlace (First (ToAdd s h))) more
unfolding reads go go_behind and_go last_place
adds s h more = grind (arith, nat_tests)

pub takes : (s : Terms) (h : ExprHole) (more : List Token) → reads (last_place s h) (Minus ∷ more) ≡ reads (FactorPlace (First (ToTake s h)))
    more
unfolding reads go go_behind and_go last_place
takes s h more = grind (arith, nat_tests)

pub closes : (s : Terms) (h : FactorHole) (more : List Token)
    → reads (last_place s (Within h)) (RightParen ∷ more) ≡ reads (factor_done h (InParens s)) more
unfolding reads go go_behind go_paren and_go last_place
closes s h more = grind (arith, nat_tests)

pub ends : (s : Terms) (owner : Owner) (h : LineHole) (more : List Token)
    → reads (last_place s (Of owner h)) (Semicolon ∷ more) ≡ reads (LinePlace (line_added h (owned owner s))) more
unfolding reads go go_behind go_end and_go last_place
ends s owner h more = grind (arith, nat_tests)

mutual
  unfolding reads go go_factor go_behind and_go last_place

  pub factor_reads : (f : Factor) (h : FactorHole) (more : List Token) → reads (FactorPlace h) (spell_factor f more) ≡ reads (factor_done h
      f) more
  factor_reads (ANumber n) h more = refl
  factor_reads (AName bytes) h more = refl
  factor_reads (InParens s) h more = terms_read s (Within h) (RightParen ∷ more) ∙ closes s h more
  factor_reads (Negated f) h more = factor_reads f (Signed h) more

  pub factors_read : (t : Factors) (h : TermHole) (more : List Token) → reads (FactorPlace (First h)) (spell_factors t more) ≡ reads
      (BehindPlace t h) more
  factors_read (OneFactor f) h more = factor_reads f (First h) more
  factors_read (Times t f) h more = factors_read t h (Star ∷ spell_factor f more) ∙ factor_reads f (Behind t h) more

  pub terms_read : (s : Terms) (h : ExprHole) (more : List Token)
      → reads (FactorPlace (First (FirstTerm h))) (spell_terms s more) ≡ reads (last_place s h) more
  terms_read (OneTerm t) h more = factors_read t (FirstTerm h) more
  terms_read (Added s t) h more = terms_read s h (Plus ∷ spell_factors t more) ∙ adds s h (spell_factors t more)
      ∙ factors_read t (ToAdd s h) more
  terms_read (Taken s t) h more = terms_read s h (Minus ∷ spell_factors t more) ∙ takes s h (spell_factors t more)
      ∙ factors_read t (ToTake s h) more

pub value_begins : (s : Terms) (h : LineHole) (more : List Token)
    → reads (LinePlace h) (spell_terms s more) ≡ reads (FactorPlace (shown h)) (spell_terms s more)
unfolding reads go go_line go_factor and_go
value_begins s h = terms_begin (λ ts. reads (LinePlace h) ts ≡ reads (FactorPlace (shown h)) ts) (λ n ts. refl) (λ bytes ts. refl)
    (λ ts. refl) (λ ts. refl) s

-- with statements of a program after those before a place
unfoldable pub with_lines : LineHole → Program → LineHole
with_lines h Empty = h
with_lines h (Next p l) = line_added (with_lines h p) l

pub in_block : (p : Program) (h : LineHole) → with_lines (InBlock Empty h) p ≡ InBlock p h
unfolding with_lines
in_block Empty h = refl
in_block (Next p l) h = ap (λ g. line_added g l) (in_block p h)

pub in_program : (p : Program) → with_lines (InProgram Empty) p ≡ InProgram p
unfolding with_lines
in_program Empty = refl
in_program (Next p l) = ap (λ g. line_added g l) (in_program p)

mutual
  unfolding reads go go_line go_name go_equals go_brace and_go with_lines

  pub line_reads : (l : Line) (h : LineHole) (more : List Token) → reads (LinePlace h) (spell_line l more) ≡ reads (LinePlace (line_added h
      l)) more
  line_reads (LetLine name s) h more = terms_read s (Of (LetOf name) h) (Semicolon ∷ more) ∙ ends s (LetOf name) h more
  line_reads (ShowLine s) h more =
      value_begins s h (Semicolon ∷ more) ∙ terms_read s (Of ShowOf h) (Semicolon ∷ more) ∙ ends s ShowOf h more
  line_reads (BlockLine p) h more = program_reads p (InBlock Empty h) (RightBrace ∷ more) ∙ ap (λ g. reads (LinePlace g) (RightBrace ∷
      more)) (in_block p h)

  pub program_reads : (p : Program) (h : LineHole) (more : List Token) → reads (LinePlace h) (spell p more) ≡ reads (LinePlace (with_lines h
      p)) more
  program_reads Empty h more = refl
  program_reads (Next p l) h more = program_reads p h (spell_line l more) ∙ line_reads l (with_lines h p) more

-- ---- Up to a place

abbrev pub begin : Place
begin = LinePlace (InProgram Empty)

opens_block : (p : Program) (h : LineHole) (ts : List Token) → reads (LinePlace h) (LeftBrace ∷ spell p ts) ≡ reads (LinePlace (InBlock p h)) ts
unfolding reads go go_line and_go
opens_block p h ts = program_reads p (InBlock Empty h) ts ∙ ap (λ g. reads (LinePlace g) ts) (in_block p h)

-- Reading comes to each place over the tokens before it.
pub line_comes : (h : LineHole) (ts : List Token) → reads begin (before_line h ts) ≡ reads (LinePlace h) ts
line_comes (InProgram p) ts = program_reads p (InProgram Empty) ts ∙ ap (λ g. reads (LinePlace g) ts) (in_program p)
line_comes (InBlock p h) ts = line_comes h (LeftBrace ∷ spell p ts) ∙ opens_block p h ts

-- where a statement begins with these, an expression does
abbrev pub BeginExpr : List Token → Type 0
BeginExpr ts = (h : LineHole) → reads (LinePlace h) ts ≡ reads (FactorPlace (shown h)) ts

owner_comes : (owner : Owner) (h : LineHole) (ts : List Token) → BeginExpr ts
    → reads begin (before_line h (owner_tokens owner ts)) ≡ reads (FactorPlace (First (FirstTerm (Of owner h)))) ts
unfolding reads go go_line go_name go_equals and_go
owner_comes (LetOf name) h ts begins = line_comes h (LetKey ∷ Word name ∷ Equals ∷ ts)
owner_comes ShowOf h ts begins = line_comes h ts ∙ begins h

mutual
  unfolding reads go go_line go_factor go_behind and_go

  pub factor_comes : (h : FactorHole) (ts : List Token) → BeginExpr ts → reads begin (before_factor h ts) ≡ reads (FactorPlace h) ts
  factor_comes (First h) ts begins = term_comes h ts begins
  factor_comes (Behind t h) ts begins =
      term_comes h (spell_factors t (Star ∷ ts)) (λ g. value_begins (OneTerm t) g (Star ∷ ts)) ∙ factors_read t h (Star ∷ ts)
  factor_comes (Signed h) ts begins = factor_comes h (Minus ∷ ts) (λ g. refl)

  pub term_comes : (h : TermHole) (ts : List Token) → BeginExpr ts → reads begin (before_term h ts) ≡ reads (FactorPlace (First h)) ts
  term_comes (FirstTerm h) ts begins = expr_comes h ts begins
  term_comes (ToAdd s h) ts begins =
      expr_comes h (spell_terms s (Plus ∷ ts)) (λ g. value_begins s g (Plus ∷ ts)) ∙ terms_read s h (Plus ∷ ts) ∙ adds s h ts
  term_comes (ToTake s h) ts begins =
      expr_comes h (spell_terms s (Minus ∷ ts)) (λ g. value_begins s g (Minus ∷ ts)) ∙ terms_read s h (Minus ∷ ts) ∙ takes s h ts

  pub expr_comes : (h : ExprHole) (ts : List Token) → BeginExpr ts
      → reads begin (before_expr h ts) ≡ reads (FactorPlace (First (FirstTerm h))) ts
  expr_comes (Within h) ts begins = factor_comes h (LeftParen ∷ ts) (λ g. refl)
  expr_comes (Of owner h) ts begins = owner_comes owner h ts begins

-- ---- At most one program

tokens_program : (p q : Program) → spell p [] ≡ spell q [] → p ≡ q
unfolding reads
tokens_program p q same =
    let both : Some (LinePlace (InProgram p)) ≡ Some (LinePlace (InProgram q))
    = sym (line_comes (InProgram p) []) ∙ ap (reads begin) same ∙ line_comes (InProgram q) [] in
    cc

pub one_program : (tokens : List Token) (trees others : Stmts) (n m : ℕ) → IsProgram tokens trees n → IsProgram tokens others m
    → (trees ≡ others) × (n ≡ m)
one_program tokens trees others n m a b =
    let same : a.program ≡ b.program = tokens_program a.program b.program (a.tokens_are ∙ sym b.tokens_are) in
    (sym a.trees_are ∙ ap trees_of same ∙ b.trees_are, sym a.nest_is ∙ ap nest same ∙ b.nest_is)
