-- Examples, computed: refusals, texts, folding and findings.
use Rattle.std.proofs.Common.{◌≡◌, ◌++◌, refl, Some, None, [], ◌∷◌, codes, replicate}
use Rattle.line_parts.specs.Numbers.{number, digits}
use Rattle.tree_rules.specs.Tokens.{LetKey, Word, Number, Star, Other, Equals, Semicolon, tokens, tokens_from, front, without_places}
use Rattle.tree_rules.specs.Trees.{Expr, Num, Name, Neg, Sum, Prod, NoExprs, And, Let, Block, Stmts, NoStmts, Then, text, folded_stmts, folds_of_stmts}
use Rattle.tree_rules.specs.Reading.{refusal_of, refusal_from}
use Rattle.tree_rules.specs.Report.{findings_of, finding, walk}
use Rattle.tree_rules.specs.declared.refused.Refused.TheVariants.{Syntax, TooDeep, NumberTooBig}
use Rattle.tree_rules.specs.declared.finding.FindKind.TheVariants.{Undefined, Redefined, Shadowed}

some_tokens : without_places (tokens (codes "let x_1 = 12*a;")) ≡ LetKey ∷ Word (codes "x_1") ∷ Equals ∷ Number 12 ∷ Star ∷ Word (codes
    "a") ∷ Semicolon ∷ []
unfolding tokens_from front
some_tokens = refl

needless_zero : without_places (tokens (codes "007 0 1a a1")) ≡ Other ∷ Number 0 ∷ Number 1 ∷ Word (codes "a") ∷ Word (codes "a1") ∷ []
unfolding tokens_from front
needless_zero = refl

-- ---- Refusals

open_parenthesis : refusal_of (codes "(1+2") ≡ Some (Syntax 4)
unfolding tokens_from front refusal_from
open_parenthesis = refl

key_word : refusal_of (codes "let let = 1;") ≡ Some (Syntax 4)
unfolding tokens_from front refusal_from
key_word = refl

deep : refusal_of (replicate 65 40) ≡ Some (TooDeep 64)
unfolding tokens_from front refusal_from
deep = refl

big : refusal_of (codes "18446744073709551616;") ≡ Some (NumberTooBig 0)
unfolding tokens_from front refusal_from
big = refl

least_too_big : refusal_of (codes "18446744073709551615;") ≡ None
unfolding tokens_from front refusal_from
least_too_big = refl

no_text : refusal_of [] ≡ None
unfolding tokens_from front refusal_from
no_text = refl

no_factor : refusal_of (codes "a + ;") ≡ Some (Syntax 4)
unfolding tokens_from front refusal_from
no_factor = refl

-- ---- Texts

abbrev y : Expr
y = Name (codes "y")

-- let x = 1+2*3 - -y;
abbrev sample : Stmts
sample = Then (Let (codes "x") (Sum (And (Num 1) (And (Prod (And (Num 2) (And (Num 3) NoExprs))) (And (Neg (Neg y)) NoExprs))))) NoStmts

sample_text : text sample ≡ codes "let x = 1 + 2 * 3 - -y;" ++ 10 ∷ []
unfolding number digits
sample_text = refl

sample_folded : text (folded_stmts sample) ≡ codes "let x = 1 + 6 + y;" ++ 10 ∷ []
unfolding number digits
sample_folded = refl

sample_folds : folds_of_stmts sample ≡ 2
sample_folds = refl

empty_block : text (Then (Block NoStmts) NoStmts) ≡ codes "{" ++ 10 ∷ codes "}" ++ 10 ∷ []
empty_block = refl

-- ---- Findings

-- let a = 1; { let a = b; }
shadows : findings_of (Then (Let (codes "a") (Num 1)) (Then (Block (Then (Let (codes "a") (Name (codes "b"))) NoStmts)) NoStmts))
    ≡ finding Undefined (codes "b") ∷ finding Shadowed (codes "a") ∷ []
unfolding walk
shadows = refl

-- let a = a; let a = 2;
defined_twice : findings_of (Then (Let (codes "a") (Name (codes "a"))) (Then (Let (codes "a") (Num 2)) NoStmts))
    ≡ finding Undefined (codes "a") ∷ finding Redefined (codes "a") ∷ []
unfolding walk
defined_twice = refl
