-- The text of a tree is a program, and its tree is that tree.
use Rattle.std.proofs.lemmas.Bool.Decides.{nat_tests}
use Rattle.std.proofs.Common.{arith, ◌≡◌, ℕ, List, [], ◌∷◌, ◌++◌, refl, sym, ap, ◌∙◌, codes, append_assoc, append-nil}
use Rattle.tree_rules.specs.Tokens.{Token, front, LetKey, Word, Plus, Minus, Star, LeftParen, RightParen, LeftBrace, RightBrace, Equals, Semicolon, tokens, without_places}
use Rattle.line_parts.specs.Numbers.{with_feed}
use Rattle.tree_rules.specs.Trees.{Expr, Num, Name, Neg, Sum, Prod, Exprs, NoExprs, And, with_expr, Stmt, Let, Show, Block, Stmts, NoStmts, Then, with_stmt, IsName, AreSeveral, IsExpr, AreExprs, IsStmt, AreStmts, AsExpr, AsTerm, AsFactor, expr_text, terms_text, more_terms_text, factors_text, more_factors_text, stmt_text, text}
use Rattle.tree_rules.specs.Grammar.{Factor, ANumber, AName, InParens, Negated, Factors, OneFactor, Times, Terms, OneTerm, Added, Taken, Line, LetLine, ShowLine, BlockLine, Program, Empty, Next, spell_factor, spell_factors, spell_terms, spell_line, spell, factor_tree, factors_tree, factor_trees, terms_tree, term_trees, line_tree, trees_of, nest, IsProgram}
use Rattle.tree_rules.proofs.TokenLemmas.{lex, lex_is, Stops, lex_name, lex_number}

-- ---- How a tree's text is read

abbrev mutual
  pub as_factor : Expr → Factor
  as_factor (Num n) = ANumber n
  as_factor (Name bytes) = AName bytes
  as_factor (Neg e) = Negated (as_factor e)
  as_factor (Sum kids) = InParens (as_sum kids)
  as_factor (Prod kids) = InParens (OneTerm (as_product kids))

  pub as_term : Expr → Factors
  as_term (Num n) = OneFactor (ANumber n)
  as_term (Name bytes) = OneFactor (AName bytes)
  as_term (Neg e) = OneFactor (Negated (as_factor e))
  as_term (Sum kids) = OneFactor (InParens (as_sum kids))
  as_term (Prod kids) = as_product kids

  pub as_expr : Expr → Terms
  as_expr (Num n) = OneTerm (OneFactor (ANumber n))
  as_expr (Name bytes) = OneTerm (OneFactor (AName bytes))
  as_expr (Neg e) = OneTerm (OneFactor (Negated (as_factor e)))
  as_expr (Sum kids) = as_sum kids
  as_expr (Prod kids) = OneTerm (as_product kids)

  pub as_sum : Exprs → Terms
  as_sum NoExprs = OneTerm (OneFactor (ANumber 0))
  as_sum (And e rest) = add_terms rest (OneTerm (as_term e))

  pub add_terms : Exprs → Terms → Terms
  add_terms NoExprs s = s
  add_terms (And (Neg e) rest) s = add_terms rest (Taken s (as_term e))
  add_terms (And e rest) s = add_terms rest (Added s (as_term e))

  pub as_product : Exprs → Factors
  as_product NoExprs = OneFactor (ANumber 0)
  as_product (And e rest) = add_factors rest (OneFactor (as_factor e))

  pub add_factors : Exprs → Factors → Factors
  add_factors NoExprs t = t
  add_factors (And e rest) t = add_factors rest (Times t (as_factor e))

abbrev mutual
  pub as_line : Stmt → Line
  as_line (Let name e) = LetLine name (as_expr e)
  as_line (Show e) = ShowLine (as_expr e)
  as_line (Block body) = BlockLine (add_lines body Empty)

  pub add_lines : Stmts → Program → Program
  add_lines NoStmts p = p
  add_lines (Then s rest) p = add_lines rest (Next p (as_line s))

-- ---- Its tokens

more_terms_stop : (kids : Exprs) (rest : List ℕ) → Stops rest → Stops (more_terms_text kids ++ rest)
more_terms_stop kids rest stop = grind (arith, nat_tests)

more_factors_stop : (kids : Exprs) (rest : List ℕ) → Stops rest → Stops (more_factors_text kids ++ rest)
more_factors_stop kids rest stop = grind (arith, nat_tests)

-- a text in parentheses
parens_lex : (inner rest : List ℕ) (spelled : List Token → List Token)
    → ((more : List ℕ) → Stops more → lex 0 (inner ++ more) ≡ spelled (lex 0 more))
    → lex 0 ((codes "(" ++ inner ++ codes ")") ++ rest) ≡ LeftParen ∷ spelled (RightParen ∷ lex 0 rest)
unfolding lex front
parens_lex inner rest spelled is = grind (arith, nat_tests, lex, append_assoc)

-- an operator, and one part more
operators_lex : (xs : List ℕ) → (lex 0 (codes " + " ++ xs) ≡ Plus ∷ lex 0 xs) × (lex 0 (codes " - " ++ xs) ≡ Minus ∷ lex 0 xs)
    × (lex 0 (codes " * " ++ xs) ≡ Star ∷ lex 0 xs)
unfolding lex front
operators_lex xs = (refl, refl, refl)

more_lex : (operator one more rest : List ℕ) (t : Token) (ahead part : List Token → List Token)
    → ((xs : List ℕ) → lex 0 (operator ++ xs) ≡ t ∷ lex 0 xs) → lex 0 (one ++ (more ++ rest)) ≡ part (lex 0 (more ++ rest))
    → ahead (t ∷ part (lex 0 (more ++ rest))) ≡ ahead (lex 0 ((operator ++ (one ++ more)) ++ rest))
more_lex operator one more rest t ahead part op is = grind (arith, nat_tests, lex, append_assoc)

negated_lex : (inner rest : List ℕ) (f : Factor) → lex 0 (inner ++ rest) ≡ spell_factor f (lex 0 rest)
    → lex 0 ((codes "-" ++ inner) ++ rest) ≡ Minus ∷ spell_factor f (lex 0 rest)
unfolding lex front
negated_lex inner rest f is = ap (λ ts. Minus ∷ ts) is

mutual
  -- as a factor, as a term and alone
  part_lex : (e : Expr) (rest : List ℕ) → IsExpr e → Stops rest
      → (lex 0 (expr_text e AsFactor ++ rest) ≡ spell_factor (as_factor e) (lex 0 rest))
      × (lex 0 (expr_text e AsTerm ++ rest) ≡ spell_factors (as_term e) (lex 0 rest))
      × (lex 0 (expr_text e AsExpr ++ rest) ≡ spell_terms (as_expr e) (lex 0 rest))
  part_lex (Num n) rest h stop = let p = lex_number n rest stop in (p, p, p)
  part_lex (Name bytes) rest h stop = let p = lex_name bytes rest h stop in (p, p, p)
  part_lex (Neg e) rest h stop =
      let p = negated_lex (expr_text e AsFactor) rest (as_factor e) (part_lex e rest h stop).0 in
      (p, p, p)
  part_lex (Sum kids) rest h stop =
      let p = parens_lex (terms_text kids) rest (spell_terms (as_sum kids)) (λ more s. sum_lex kids more h.0 h.1 s) in
      (p, p, sum_lex kids rest h.0 h.1 stop)
  part_lex (Prod kids) rest h stop =
      let p = product_lex kids rest h.0 h.1 stop in
      (parens_lex (factors_text kids) rest (spell_factors (as_product kids)) (λ more s. product_lex kids more h.0 h.1 s), p, p)

  sum_lex : (kids : Exprs) (rest : List ℕ) → AreSeveral kids → AreExprs kids → Stops rest
      → lex 0 (terms_text kids ++ rest) ≡ spell_terms (as_sum kids) (lex 0 rest)
  sum_lex NoExprs rest several h stop = absurd several
  sum_lex (And e kids) rest several h stop =
      ap (lex 0) (append_assoc (expr_text e AsTerm) (more_terms_text kids) rest)
      ∙ (part_lex e (more_terms_text kids ++ rest) h.0 (more_terms_stop kids rest stop)).1
      ∙ sym (add_lex kids rest (OneTerm (as_term e)) h.1 stop)

  add_lex : (kids : Exprs) (rest : List ℕ) (s : Terms) → AreExprs kids → Stops rest
      → spell_terms (add_terms kids s) (lex 0 rest) ≡ spell_terms s (lex 0 (more_terms_text kids ++ rest))
  add_lex NoExprs rest s h stop = refl
  add_lex (And (Neg e) kids) rest s h stop =
      add_lex kids rest (Taken s (as_term e)) h.1 stop
      ∙ more_lex (codes " - ") (expr_text e AsTerm) (more_terms_text kids) rest Minus (spell_terms s) (spell_factors (as_term e))
      (λ xs. (operators_lex xs).1) (part_lex e (more_terms_text kids ++ rest) h.0 (more_terms_stop kids rest stop)).1
  add_lex (And e kids) rest s h stop =
      add_lex kids rest (Added s (as_term e)) h.1 stop
      ∙ more_lex (codes " + ") (expr_text e AsTerm) (more_terms_text kids) rest Plus (spell_terms s) (spell_factors (as_term e))
      (λ xs. (operators_lex xs).0) (part_lex e (more_terms_text kids ++ rest) h.0 (more_terms_stop kids rest stop)).1

  product_lex : (kids : Exprs) (rest : List ℕ) → AreSeveral kids → AreExprs kids → Stops rest
      → lex 0 (factors_text kids ++ rest) ≡ spell_factors (as_product kids) (lex 0 rest)
  product_lex NoExprs rest several h stop = absurd several
  product_lex (And e kids) rest several h stop =
      ap (lex 0) (append_assoc (expr_text e AsFactor) (more_factors_text kids) rest)
      ∙ (part_lex e (more_factors_text kids ++ rest) h.0 (more_factors_stop kids rest stop)).0
      ∙ sym (times_all_lex kids rest (OneFactor (as_factor e)) h.1 stop)

  times_all_lex : (kids : Exprs) (rest : List ℕ) (t : Factors) → AreExprs kids → Stops rest
      → spell_factors (add_factors kids t) (lex 0 rest) ≡ spell_factors t (lex 0 (more_factors_text kids ++ rest))
  times_all_lex NoExprs rest t h stop = refl
  times_all_lex (And e kids) rest t h stop =
      times_all_lex kids rest (Times t (as_factor e)) h.1 stop
      ∙ more_lex (codes " * ") (expr_text e AsFactor) (more_factors_text kids) rest Star (spell_factors t) (spell_factor (as_factor e))
      (λ xs. (operators_lex xs).2) (part_lex e (more_factors_text kids ++ rest) h.0 (more_factors_stop kids rest stop)).0

-- an expression and the end of its statement
ended_lex : (e : Expr) (rest : List ℕ) → IsExpr e → lex 0 ((expr_text e AsExpr ++ with_feed (codes ";")) ++ rest) ≡ spell_terms (as_expr
    e) (Semicolon ∷ lex 0 rest)
unfolding lex front
ended_lex e rest h =
    ap (lex 0) (append_assoc (expr_text e AsExpr) (with_feed (codes ";")) rest) ∙ (part_lex e (59 ∷ 10 ∷ rest) h refl).2

let_lex : (name tail rest : List ℕ) → IsName name
    → lex 0 (((codes "let " ++ name ++ codes " = ") ++ tail) ++ rest) ≡ LetKey ∷ Word name ∷ Equals ∷ lex 0 (tail ++ rest)
unfolding lex front
let_lex name tail rest h = grind (arith, nat_tests, lex, append_assoc, codes, lex_name)

let_text : (name e : List ℕ) → codes "let " ++ name ++ codes " = " ++ e ++ with_feed (codes ";") ≡ (codes "let " ++ name ++ codes " = ")
    ++ (e ++ with_feed (codes ";"))
let_text name e = append_assoc (codes "let " ++ name ++ codes " = ") e (with_feed (codes ";"))

braces_lex : (inner rest : List ℕ) (p : Program) → lex 0 (inner ++ (125 ∷ 10 ∷ rest)) ≡ spell p (lex 0 (125 ∷ 10 ∷ rest))
    → lex 0 ((with_feed (codes "{") ++ inner ++ with_feed (codes "}")) ++ rest) ≡ LeftBrace ∷ spell p (RightBrace ∷ lex 0 rest)
unfolding lex front
braces_lex inner rest p is = grind (arith, nat_tests, lex, append_assoc, codes)

mutual
  line_lex : (s : Stmt) (rest : List ℕ) → IsStmt s → lex 0 (stmt_text s ++ rest) ≡ spell_line (as_line s) (lex 0 rest)
  line_lex (Let name e) rest h =
      ap (λ xs. lex 0 (xs ++ rest)) (let_text name (expr_text e AsExpr))
      ∙ let_lex name (expr_text e AsExpr ++ with_feed (codes ";")) rest h.0
      ∙ ap (λ ts. LetKey ∷ Word name ∷ Equals ∷ ts) (ended_lex e rest h.1)
  line_lex (Show e) rest h = ended_lex e rest h
  line_lex (Block body) rest h = braces_lex (text body) rest (add_lines body Empty) (sym (lines_lex body (125 ∷ 10 ∷ rest) Empty h))

  lines_lex : (body : Stmts) (rest : List ℕ) (p : Program) → AreStmts body → spell (add_lines body p) (lex 0 rest) ≡ spell p (lex 0 (text
      body ++ rest))
  lines_lex NoStmts rest p h = refl
  lines_lex (Then s body) rest p h =
      lines_lex body rest (Next p (as_line s)) h.1
      ∙ ap (spell p) (sym (line_lex s (text body ++ rest) h.0) ∙ ap (lex 0) (sym (append_assoc (stmt_text s) (text body) rest)))

-- ---- Its tree

abbrev joined : Exprs → Exprs → Exprs
joined NoExprs more = more
joined (And e rest) more = And e (joined rest more)

with_joined : (es more : Exprs) (e : Expr) → joined (with_expr es e) more ≡ joined es (And e more)
with_joined NoExprs more e = refl
with_joined (And f es) more e = ap (λ rest. And f rest) (with_joined es more e)

joined_none : (es : Exprs) → joined es NoExprs ≡ es
joined_none NoExprs = refl
joined_none (And e es) = ap (λ rest. And e rest) (joined_none es)

-- several terms are a sum of them, and several factors a product
sum_tree : (f : Expr) (kids : Exprs) (s : Terms) → terms_tree (add_terms (And f kids) s) ≡ Sum (term_trees (add_terms (And f kids) s))
sum_tree (Neg e) NoExprs s = refl
sum_tree _ NoExprs s = refl
sum_tree (Neg e) (And g kids) s = sum_tree g kids (Taken s (as_term e))
sum_tree f (And g kids) s = sum_tree g kids (Added s (as_term f))

product_tree : (f : Expr) (kids : Exprs) (t : Factors)
    → factors_tree (add_factors (And f kids) t) ≡ Prod (factor_trees (add_factors (And f kids) t))
product_tree f NoExprs t = refl
product_tree f (And g kids) t = product_tree g kids (Times t (as_factor f))

sum_is : (kids : Exprs) → AreSeveral kids → terms_tree (as_sum kids) ≡ Sum (term_trees (as_sum kids))
sum_is kids h = grind (arith, nat_tests, sum_tree)

product_is : (kids : Exprs) → AreSeveral kids → factors_tree (as_product kids) ≡ Prod (factor_trees (as_product kids))
product_is kids h = grind (arith, nat_tests, product_tree)

mutual
  part_back : (e : Expr) → IsExpr e → (factor_tree (as_factor e) ≡ e) × (factors_tree (as_term e) ≡ e) × (terms_tree (as_expr e) ≡ e)
  part_back (Num n) h = (refl, refl, refl)
  part_back (Name bytes) h = (refl, refl, refl)
  part_back (Neg e) h = let p = ap Neg (part_back e h).0 in (p, p, p)
  part_back (Sum kids) h = let p = sum_is kids h.0 ∙ ap Sum (sum_back kids h.0 h.1) in (p, p, p)
  part_back (Prod kids) h = let p = product_is kids h.0 ∙ ap Prod (product_back kids h.0 h.1) in (p, p, p)

  sum_back : (kids : Exprs) → AreSeveral kids → AreExprs kids → term_trees (as_sum kids) ≡ kids
  sum_back NoExprs several h = absurd several
  sum_back (And e kids) several h = add_back kids (OneTerm (as_term e)) h.1 ∙ ap (λ f. And f kids) (part_back e h.0).1

  add_back : (kids : Exprs) (s : Terms) → AreExprs kids → term_trees (add_terms kids s) ≡ joined (term_trees s) kids
  add_back NoExprs s h = sym (joined_none (term_trees s))
  add_back (And (Neg e) kids) s h =
      add_back kids (Taken s (as_term e)) h.1 ∙ with_joined (term_trees s) kids (Neg (factors_tree (as_term e)))
      ∙ ap (λ f. joined (term_trees s) (And (Neg f) kids)) (part_back e h.0).1
  add_back (And e kids) s h =
      add_back kids (Added s (as_term e)) h.1 ∙ with_joined (term_trees s) kids (factors_tree (as_term e))
      ∙ ap (λ f. joined (term_trees s) (And f kids)) (part_back e h.0).1

  product_back : (kids : Exprs) → AreSeveral kids → AreExprs kids → factor_trees (as_product kids) ≡ kids
  product_back NoExprs several h = absurd several
  product_back (And e kids) several h = times_back kids (OneFactor (as_factor e)) h.1 ∙ ap (λ f. And f kids) (part_back e h.0).0

  times_back : (kids : Exprs) (t : Factors) → AreExprs kids → factor_trees (add_factors kids t) ≡ joined (factor_trees t) kids
  times_back NoExprs t h = sym (joined_none (factor_trees t))
  times_back (And e kids) t h =
      times_back kids (Times t (as_factor e)) h.1 ∙ with_joined (factor_trees t) kids (factor_tree (as_factor e))
      ∙ ap (λ f. joined (factor_trees t) (And f kids)) (part_back e h.0).0

abbrev joined_stmts : Stmts → Stmts → Stmts
joined_stmts NoStmts more = more
joined_stmts (Then s rest) more = Then s (joined_stmts rest more)

with_joined_stmts : (ss more : Stmts) (s : Stmt) → joined_stmts (with_stmt ss s) more ≡ joined_stmts ss (Then s more)
with_joined_stmts NoStmts more s = refl
with_joined_stmts (Then t ss) more s = ap (λ rest. Then t rest) (with_joined_stmts ss more s)

joined_stmts_none : (ss : Stmts) → joined_stmts ss NoStmts ≡ ss
joined_stmts_none NoStmts = refl
joined_stmts_none (Then s ss) = ap (λ rest. Then s rest) (joined_stmts_none ss)

mutual
  line_back : (s : Stmt) → IsStmt s → line_tree (as_line s) ≡ s
  line_back (Let name e) h = ap (λ f. Let name f) (part_back e h.1).2
  line_back (Show e) h = ap (λ f. Show f) (part_back e h).2
  line_back (Block body) h = ap Block (lines_back body Empty h)

  lines_back : (body : Stmts) (p : Program) → AreStmts body → trees_of (add_lines body p) ≡ joined_stmts (trees_of p) body
  lines_back NoStmts p h = sym (joined_stmts_none (trees_of p))
  lines_back (Then s body) p h =
      lines_back body (Next p (as_line s)) h.1 ∙ with_joined_stmts (trees_of p) body (line_tree (as_line s))
      ∙ ap (λ t. joined_stmts (trees_of p) (Then t body)) (line_back s h.0)

-- ---- The whole

pub text_tokens : (t : Stmts) → AreStmts t → spell (add_lines t Empty) [] ≡ without_places (tokens (text t))
unfolding lex
text_tokens t h = lines_lex t [] Empty h ∙ ap (lex 0) (append-nil (text t)) ∙ sym (lex_is 0 0 (text t))

pub text_program : (t : Stmts) → AreStmts t → (n : ℕ) × IsProgram (without_places (tokens (text t))) t n
text_program t h = (
  nest (add_lines t Empty),
  record {
    program = add_lines t Empty;
    tokens_are = text_tokens t h;
    trees_are = lines_back t Empty h;
    nest_is = refl;
  },
)
