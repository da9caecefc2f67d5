-- The tree of a text is well formed: its names are names, its sums and products have several children, its numbers fit.
use Rattle.std.proofs.lemmas.Bool.Decides.{nat_tests}
use Rattle.std.proofs.Common.{◌≡◌, ℕ, zero, suc, ◌-◌, Bool, true, false, cond, List, [], ◌∷◌, refl, subst, sym, codes, arith}
use Rattle.std.specs.Prelude.{◌||◌, bytes_eq}
use Rattle.std.specs.List.{list_all, AllByRecursion}
use Rattle.tree_rules.specs.Tokens.{Token, Word, Plus, Minus, Star, RightParen, RightBrace, Semicolon, is_space, is_digit, is_name_start, is_name_byte, run, word, signs, has_needless_zero, number_token, front, tokens, without_places}
use Rattle.tree_rules.specs.Trees.{Expr, Neg, Exprs, NoExprs, And, with_expr, Stmt, Stmts, NoStmts, Then, with_stmt, IsName, AreSeveral, IsExpr, AreExprs, IsStmt, AreStmts, HasSmall, HaveSmall, StmtFits, StmtsFit}
use Rattle.tree_rules.specs.Grammar.{Factor, ANumber, AName, InParens, Negated, Factors, OneFactor, Times, Terms, OneTerm, Added, Taken, Line, LetLine, ShowLine, BlockLine, Program, Empty, Next, spell_factor, spell_factors, spell_terms, spell_line, spell, factor_tree, factors_tree, factor_trees, terms_tree, term_trees, line_tree, trees_of}
use Rattle.tree_rules.specs.Refusals.{Fits, IsGood}
use Rattle.std.proofs.lemmas.Bool.{cond_both}
use Rattle.tree_rules.proofs.TokenLemmas.{lex, lex_is, front_by, sign_by}

-- ---- The words of a text are names

abbrev IsNamed : Token → Type 0
IsNamed (Word bytes) = IsName bytes
IsNamed t = Unit {0}

run_all : (passes : ℕ → Bool) (bytes : List ℕ) → list_all passes (run passes bytes) ≡ true
run_all passes [] = refl
run_all passes (b ∷ bytes) = grind (arith, run_all passes bytes)

front_named : (b : ℕ) (bytes : List ℕ) → IsNamed (front b bytes).token
front_named b bytes = front_by b bytes (λ f. IsNamed f.token) (λ d. number) word_named
    (sign_by b IsNamed tt signs (tt, (tt, (tt, (tt, (tt, (tt, (tt, (tt, (tt, tt))))))))))
  where
    number : IsNamed (number_token (run is_digit (b ∷ bytes)))
    number = cond_both (has_needless_zero (run is_digit (b ∷ bytes))) _ _ IsNamed (λ h. tt) (λ h. tt)

    word_named : is_name_start b ≡ true → IsNamed (word (run is_name_byte (b ∷ bytes)))
    word_named start = subst (λ s. IsNamed (word (cond (s || is_digit b) (b ∷ run is_name_byte bytes) []))) (sym start)
        (cond_both (bytes_eq (b ∷ run is_name_byte bytes) (codes "let")) _ _ IsNamed (λ h. tt)
        (λ other. (start, run_all is_name_byte bytes, other)))

lex_named : (skip : ℕ) (bytes : List ℕ) → AllByRecursion IsNamed (lex skip bytes)
unfolding lex
lex_named skip [] = tt
lex_named (suc skip) (b ∷ bytes) = lex_named skip bytes
lex_named zero (b ∷ bytes) = by (is_space b) (lex_named zero bytes) (lex_named ((front b bytes).length - 1) bytes)
  where
    by : (space : Bool) → AllByRecursion IsNamed (lex zero bytes) → AllByRecursion IsNamed (lex ((front b bytes).length - 1) bytes)
        → AllByRecursion IsNamed (elim space [
          | true ↦ lex zero bytes
          | false ↦ (front b bytes).token ∷ lex ((front b bytes).length - 1)
              bytes
        ])
    by true none more = none
    by false none more = (front_named b bytes, more)

tokens_named : (bytes : List ℕ) → AllByRecursion IsNamed (without_places (tokens bytes))
tokens_named bytes = subst (AllByRecursion IsNamed) (sym (lex_is 0 0 bytes)) (lex_named 0 bytes)

-- ---- Trees

abbrev IsFine : Token → Type 0
IsFine t = IsNamed t × Fits t

both : (ts : List Token) → AllByRecursion IsNamed ts → AllByRecursion Fits ts → AllByRecursion IsFine ts
both [] named fit = tt
both (t ∷ ts) named fit = ((named.0, fit.0), both ts named.1 fit.1)

abbrev Fine : Expr → Type 0
Fine e = IsExpr e × HasSmall e

abbrev AllFine : Exprs → Type 0
AllFine es = AreExprs es × HaveSmall es

abbrev AreSome : Exprs → Type 0
AreSome NoExprs = ⊥
AreSome (And e rest) = Unit {0}

with_fine : (es : Exprs) (e : Expr) → AllFine es → Fine e → AllFine (with_expr es e)
with_fine NoExprs e all one = ((one.0, tt), (one.1, tt))
with_fine (And d es) e all one =
    let rest = with_fine es e (all.0.1, all.1.1) one in
    ((all.0.0, rest.0), (all.1.0, rest.1))

several : (es : Exprs) (e : Expr) → AreSome es → AreSeveral (with_expr es e)
several NoExprs e some = some
several (And d NoExprs) e some = tt
several (And d (And f es)) e some = tt

some_with : (es : Exprs) (e : Expr) → AreSome (with_expr es e)
some_with NoExprs e = tt
some_with (And d es) e = tt

some_factors : (t : Factors) → AreSome (factor_trees t)
some_factors (OneFactor f) = tt
some_factors (Times t f) = some_with (factor_trees t) (factor_tree f)

some_terms : (s : Terms) → AreSome (term_trees s)
some_terms (OneTerm t) = tt
some_terms (Added s t) = some_with (term_trees s) (factors_tree t)
some_terms (Taken s t) = some_with (term_trees s) (Neg (factors_tree t))

abbrev All : List Token → Type 0
All ts = AllByRecursion IsFine ts

mutual
  factor_fine : (f : Factor) (more : List Token) → All (spell_factor f more) → Fine (factor_tree f) × All more
  factor_fine (ANumber n) more all = ((tt, all.0.1), all.1)
  factor_fine (AName bytes) more all = ((all.0.0, tt), all.1)
  factor_fine (InParens s) more all = let inner = terms_fine s (RightParen ∷ more) all.1 in (inner.0, inner.2.1)
  factor_fine (Negated f) more all = factor_fine f more all.1

  -- a product as one, its factors, and what follows
  factors_fine : (t : Factors) (more : List Token) → All (spell_factors t more)
      → Fine (factors_tree t) × AllFine (factor_trees t) × All more
  factors_fine (OneFactor f) more all =
      let one = factor_fine f more all in
      (one.0, ((one.0.0, tt), (one.0.1, tt)), one.1)
  factors_fine (Times t f) more all =
      let first = factors_fine t (Star ∷ spell_factor f more) all in
      let last = factor_fine f more first.2.1 in
      let kids = with_fine (factor_trees t) (factor_tree f) first.1 last.0 in
      (((several (factor_trees t) (factor_tree f) (some_factors t), kids.0), kids.1), kids, last.1)

  terms_fine : (s : Terms) (more : List Token) → All (spell_terms s more) → Fine (terms_tree s) × AllFine (term_trees s) × All more
  terms_fine (OneTerm t) more all =
      let one = factors_fine t more all in
      (one.0, ((one.0.0, tt), (one.0.1, tt)), one.2)
  terms_fine (Added s t) more all =
      let first = terms_fine s (Plus ∷ spell_factors t more) all in
      let last = factors_fine t more first.2.1 in
      let kids = with_fine (term_trees s) (factors_tree t) first.1 last.0 in
      (((several (term_trees s) (factors_tree t) (some_terms s), kids.0), kids.1), kids, last.2)
  terms_fine (Taken s t) more all =
      let first = terms_fine s (Minus ∷ spell_factors t more) all in
      let last = factors_fine t more first.2.1 in
      let kids = with_fine (term_trees s) (Neg (factors_tree t)) first.1 last.0 in
      (((several (term_trees s) (Neg (factors_tree t)) (some_terms s), kids.0), kids.1), kids, last.2)

abbrev StmtsFine : Stmts → Type 0
StmtsFine t = AreStmts t × StmtsFit t

with_line : (t : Stmts) (s : Stmt) → StmtsFine t → IsStmt s × StmtFits s → StmtsFine (with_stmt t s)
with_line NoStmts s all one = ((one.0, tt), (one.1, tt))
with_line (Then r t) s all one =
    let rest = with_line t s (all.0.1, all.1.1) one in
    ((all.0.0, rest.0), (all.1.0, rest.1))

mutual
  line_fine : (l : Line) (more : List Token) → All (spell_line l more) → (IsStmt (line_tree l) × StmtFits (line_tree l)) × All more
  line_fine (LetLine name s) more all =
      let inner = terms_fine s (Semicolon ∷ more) all.1.1.1 in
      (((all.1.0.0, inner.0.0), inner.0.1), inner.2.1)
  line_fine (ShowLine s) more all = let inner = terms_fine s (Semicolon ∷ more) all in (inner.0, inner.2.1)
  line_fine (BlockLine p) more all = let inner = program_fine p (RightBrace ∷ more) all.1 in (inner.0, inner.1.1)

  program_fine : (p : Program) (more : List Token) → All (spell p more) → StmtsFine (trees_of p) × All more
  program_fine Empty more all = ((tt, tt), all)
  program_fine (Next p l) more all =
      let first = program_fine p (spell_line l more) all in
      let last = line_fine l more first.1 in
      (with_line (trees_of p) (line_tree l) first.0 last.0, last.1)

pub good_fine : (bytes : List ℕ) (trees : Stmts) → IsGood bytes trees → AreStmts trees × StmtsFit trees
good_fine bytes trees good = grind (arith, nat_tests, program_fine, both, tokens_named)
