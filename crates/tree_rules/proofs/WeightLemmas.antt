-- The definitions and blocks of a text weigh at most its bytes.
use Rattle.std.proofs.Common.{◌≡◌, ℕ, zero, suc, ◌+◌, ◌-◌, ◌≤◌, Bool, true, List, [], ◌∷◌, length, sym, subst, arith, Ok}
use Rattle.tree_rules.specs.Tokens.{Token, LetKey, Word, Plus, Minus, Star, RightParen, RightBrace, Semicolon, Other, is_digit, is_name_start, is_name_byte, run, signs, has_needless_zero, front, tokens_from, without_places}
use Rattle.tree_rules.specs.Trees.{Stmt, Stmts, NoStmts, Then, with_stmt}
use Rattle.tree_rules.specs.Grammar.{Factor, ANumber, AName, InParens, Negated, Factors, OneFactor, Times, Terms, OneTerm, Added, Taken, Line, LetLine, ShowLine, BlockLine, Program, Empty, Next, spell_factor, spell_factors, spell_terms, spell_line, spell, line_tree, trees_of}
use Rattle.tree_rules.specs.Refusals.{TreeOf}
use Rattle.tree_rules.specs.Weights.{weight, weights}
use Rattle.std.proofs.lemmas.Bool.{cond_both}
use Rattle.tree_rules.proofs.TokenLemmas.{front_by, sign_by}

-- the most that a token adds
abbrev letters : Token → ℕ
letters (Word bytes) = length bytes
letters _ = 1

abbrev all_letters : List Token → ℕ
all_letters [] = 0
all_letters (t ∷ ts) = letters t + all_letters ts

-- ---- Of a program's tokens

mutual
  factor_letters : (f : Factor) (more : List Token) → all_letters more ≤ all_letters (spell_factor f more)
  factor_letters (ANumber n) more = omega arith
  factor_letters (AName bytes) more = omega arith
  factor_letters (InParens s) more = omega (arith, terms_letters s (RightParen ∷ more))
  factor_letters (Negated f) more = omega (arith, factor_letters f more)

  factors_letters : (t : Factors) (more : List Token) → all_letters more ≤ all_letters (spell_factors t more)
  factors_letters (OneFactor f) more = factor_letters f more
  factors_letters (Times t f) more = omega (arith, factors_letters t (Star ∷ spell_factor f more), factor_letters f more)

  terms_letters : (s : Terms) (more : List Token) → all_letters more ≤ all_letters (spell_terms s more)
  terms_letters (OneTerm t) more = factors_letters t more
  terms_letters (Added s t) more = omega (arith, terms_letters s (Plus ∷ spell_factors t more), factors_letters t more)
  terms_letters (Taken s t) more = omega (arith, terms_letters s (Minus ∷ spell_factors t more), factors_letters t more)

with_weight : (ss : Stmts) (s : Stmt) → weights (with_stmt ss s) ≡ weights ss + weight s
with_weight NoStmts s = omega arith
with_weight (Then t rest) s = omega (arith, with_weight rest s)

mutual
  line_weight : (l : Line) (more : List Token) → weight (line_tree l) + all_letters more ≤ all_letters (spell_line l more)
  line_weight (LetLine name s) more = omega (arith, terms_letters s (Semicolon ∷ more))
  line_weight (ShowLine s) more = omega (arith, terms_letters s (Semicolon ∷ more))
  line_weight (BlockLine p) more = omega (arith, program_weight p (RightBrace ∷ more))

  program_weight : (p : Program) (more : List Token) → weights (trees_of p) + all_letters more ≤ all_letters (spell p more)
  program_weight Empty more = omega arith
  program_weight (Next p l) more =
      omega (arith, program_weight p (spell_line l more), line_weight l more, with_weight (trees_of p) (line_tree l))

-- ---- Of a text's tokens

run_length : (passes : ℕ → Bool) (bytes : List ℕ) → length (run passes bytes) ≤ length bytes
run_length passes [] = omega arith
run_length passes (b ∷ bytes) = grind (arith, run_length passes bytes)

-- at least one byte, no more than there are, and no fewer than the token adds
record IsFront (token : Token) (n most : ℕ) : Type 0 where
  pub some : 1 ≤ n
  pub few : n ≤ most
  pub covers : letters token ≤ n

front_is : (b : ℕ) (bytes : List ℕ) → IsFront (front b bytes).token (front b bytes).length (suc (length bytes))
front_is b bytes = front_by b bytes (λ f. IsFront f.token f.length (suc (length bytes)))
    (λ is. record {
      some = begun is;
      few = run_length is_digit (b ∷ bytes);
      covers = cond_both (has_needless_zero (run is_digit (b ∷ bytes))) Other _ (λ t. letters t ≤ length (run is_digit (b ∷ bytes)))
          (λ h. begun is) (λ h. begun is);
    })
    (λ is. record {
      some = word-start is;
      few = run_length is_name_byte (b ∷ bytes);
      covers = cond_both _ LetKey (Word (run is_name_byte (b ∷ bytes))) (λ t. letters t ≤ length (run is_name_byte (b ∷ bytes)))
          (λ h. word-start is) (λ h. omega arith);
    })
    (record {
      some = omega arith;
      few = omega arith;
      covers = sign_by b (λ t. letters t ≤ 1) one signs
          (one, (one, (one, (one, (one, (one, (one, (one, (one, tt)))))))));
    })
  where
    one : 1 ≤ 1
    one = omega arith

    begun : is_digit b ≡ true → 1 ≤ length (run is_digit (b ∷ bytes))
    begun is = rw is (omega arith)

    word-start : is_name_start b ≡ true → 1 ≤ length (run is_name_byte (b ∷ bytes))
    word-start is = rw is (omega arith)

tokens_letters : (at skip : ℕ) (bytes : List ℕ) → all_letters (without_places (tokens_from at skip bytes)) ≤ length bytes - skip
unfolding tokens_from
tokens_letters at skip [] = omega arith
tokens_letters at (suc skip) (b ∷ bytes) = omega (arith, tokens_letters (suc at) skip bytes)
tokens_letters at zero (b ∷ bytes) =
    let f = front_is b bytes in
    grind (arith, f, tokens_letters (suc at) zero bytes, tokens_letters (suc at) ((front b bytes).length - 1) bytes)

pub tree_light : (bytes : List ℕ) (ss : Stmts) → TreeOf bytes (Ok ss) → weights ss ≤ length bytes
tree_light bytes ss tree =
    let is = tree.program in
    let all : all_letters (spell is.program []) ≤ length bytes - 0
    = subst (λ (ts : List Token). all_letters ts ≤ length bytes - 0) (sym is.tokens_are) (tokens_letters 0 0 bytes) in
    subst (λ (t : Stmts). weights t ≤ length bytes) is.trees_are (omega (arith, program_weight is.program [], all))
