-- Which numbers of a printed tree fit.
use Rattle.std.proofs.lemmas.Bool.Decides.{nat_tests}
use Rattle.std.proofs.Common.{arith, ℕ, ◌≤◌, List, ◌∷◌, Ok, lit<}
use Rattle.std.specs.List.{AllByRecursion}
use Rattle.tree_rules.specs.Tokens.{Token, RightParen, RightBrace, Semicolon, tokens, without_places}
use Rattle.tree_rules.specs.Trees.{Expr, Num, Name, Neg, Sum, Prod, Exprs, NoExprs, And, Stmt, Let, Show, Block, Stmts, NoStmts, Then, AreStmts, HasSmall, HaveSmall, StmtFits, StmtsFit, text}
use Rattle.tree_rules.specs.Grammar.{Factors, OneFactor, Times, Terms, OneTerm, Added, Taken, Program, Empty, Next, spell_factor, spell_factors, spell_terms, spell_line, spell, IsProgram}
use Rattle.tree_rules.specs.Refusals.{Fits, most_nest, TreeOf}
use Rattle.tree_rules.proofs.RoundTrip.{as_factor, as_term, as_expr, as_sum, add_terms, as_product, add_factors, as_line, add_lines, text_tokens}

-- ---- Its numbers

abbrev All : List Token → Type 0
All = AllByRecursion Fits

mutual
  part_small : (e : Expr) (more : List Token) → HasSmall e → All more
      → All (spell_factor (as_factor e) more) × All (spell_factors (as_term e) more) × All (spell_terms (as_expr e) more)
  part_small (Num n) more h g = ((h, g), (h, g), (h, g))
  part_small (Name bytes) more h g = ((tt, g), (tt, g), (tt, g))
  part_small (Neg e) more h g = let p = (part_small e more h g).0 in ((tt, p), (tt, p), (tt, p))
  part_small (Sum kids) more h g =
      let p = sum_small kids (RightParen ∷ more) h (tt, g) in
      ((tt, p), (tt, p), sum_small kids more h g)
  part_small (Prod kids) more h g =
      let p = product_small kids more h g in
      ((tt, product_small kids (RightParen ∷ more) h (tt, g)), p, p)

  sum_small : (kids : Exprs) (more : List Token) → HaveSmall kids → All more → All (spell_terms (as_sum kids) more)
  sum_small NoExprs more h g = (lit< tt, g)
  sum_small (And e kids) more h g = add_small kids (OneTerm (as_term e)) more h.1 g (λ ts all. (part_small e ts h.0 all).1)

  -- after a sum whose numbers fit
  add_small : (kids : Exprs) (s : Terms) (more : List Token) → HaveSmall kids → All more
      → ((ts : List Token) → All ts → All (spell_terms s ts)) → All (spell_terms (add_terms kids s) more)
  add_small NoExprs s more h g before = before more g
  add_small (And (Neg e) kids) s more h g before =
      add_small kids (Taken s (as_term e)) more h.1 g (λ ts all. before _ (tt, (part_small e ts h.0 all).1))
  add_small (And e kids) s more h g before =
      add_small kids (Added s (as_term e)) more h.1 g (λ ts all. before _ (tt, (part_small e ts h.0 all).1))

  product_small : (kids : Exprs) (more : List Token) → HaveSmall kids → All more → All (spell_factors (as_product kids) more)
  product_small NoExprs more h g = (lit< tt, g)
  product_small (And e kids) more h g = times_small kids (OneFactor (as_factor e)) more h.1 g (λ ts all. (part_small e ts h.0 all).0)

  times_small : (kids : Exprs) (t : Factors) (more : List Token) → HaveSmall kids → All more
      → ((ts : List Token) → All ts → All (spell_factors t ts)) → All (spell_factors (add_factors kids t) more)
  times_small NoExprs t more h g before = before more g
  times_small (And e kids) t more h g before =
      times_small kids (Times t (as_factor e)) more h.1 g (λ ts all. before _ (tt, (part_small e ts h.0 all).0))

mutual
  line_small : (s : Stmt) (more : List Token) → StmtFits s → All more → All (spell_line (as_line s) more)
  line_small (Let name e) more h g = (tt, (tt, (tt, (part_small e (Semicolon ∷ more) h (tt, g)).2)))
  line_small (Show e) more h g = (part_small e (Semicolon ∷ more) h (tt, g)).2
  line_small (Block body) more h g = (tt, lines_small body Empty (RightBrace ∷ more) h (tt, g) (λ ts all. all))

  lines_small : (body : Stmts) (p : Program) (more : List Token) → StmtsFit body → All more
      → ((ts : List Token) → All ts → All (spell p ts)) → All (spell (add_lines body p) more)
  lines_small NoStmts p more h g before = before more g
  lines_small (Then s body) p more h g before =
      lines_small body (Next p (as_line s)) more h.1 g (λ ts all. before _ (line_small s ts h.0 all))

-- The text of a tree whose numbers fit is read as that tree, where it isn't too deep.
pub text_tree : (t : Stmts) → AreStmts t → StmtsFit t → (n : ℕ) → IsProgram (without_places (tokens (text t))) t n → n ≤ most_nest
    → TreeOf (text t) (Ok t)
text_tree t h small n is low = grind (arith, nat_tests, text_tokens, lines_small)
