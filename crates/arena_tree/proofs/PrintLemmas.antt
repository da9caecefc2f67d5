-- Texts of trees: a node's by its kind, and a list's node by node.
use Rattle.std.proofs.lemmas.Bool.Decides.{nat_tests}
use Rattle.std.proofs.Common.{◌≡◌, ℕ, suc, ◌+◌, ap, sym, refl, ◌∙◌, Bool, true, false, List, [], ◌∷◌, ◌++◌, drop, append_assoc, append-nil, add-one, arith}
use Rattle.std.specs.Prelude.{codes, ◌==◌}
use Rattle.line_parts.specs.Numbers.{number}
use Rattle.arena_chunks.specs.Memory.{Memory}
use Rattle.arena_items.specs.Values.{text_bytes}
use Rattle.tree_rules.specs.Trees.{Expr, Num, Name, Neg, Sum, Prod, Exprs, NoExprs, And, AsExpr, AsTerm, AsFactor, expr_text, terms_text, more_terms_text, factors_text, more_factors_text, sum_text, product_text, Let, Show, Stmts, NoStmts, Then, stmt_text, text}
use Rattle.tree_rules.specs.Trees as tree
use Rattle.tree_nodes.specs.declared.node.Kind.{Kind}
use Rattle.tree_nodes.specs.declared.node.Kind.TheVariants as kind
use Rattle.tree_nodes.specs.declared.node.Node.{Node}
use Rattle.arena_tree.specs.Subtrees.{Subtree, OfExpr, OfStmt, SubtreeAt, expr_row, stmt_row, has_kids}
use Rattle.arena_tree.specs.Printing.{tree_text, before_kids, behind_kids, kids_stand, joint, is_taken, piece, row_text}
use Rattle.tree_nodes.proofs.SubtreeLemmas.{kids_it, true_false}

-- ---- Rows

more_factors : (es : Exprs) → row_text AsFactor false (expr_row es) ≡ more_factors_text es
more_factors NoExprs = refl
more_factors (And e rest) = ap (λ more. codes " * " ++ expr_text e AsFactor ++ more) (more_factors rest)

factors : (es : Exprs) → row_text AsFactor true (expr_row es) ≡ factors_text es
factors es = grind (arith, nat_tests, more_factors)

more_terms : (es : Exprs) → row_text AsTerm false (expr_row es) ≡ more_terms_text es
more_terms NoExprs = refl
more_terms (And (Neg e) rest) = ap (λ more. codes " - " ++ expr_text e AsTerm ++ more) (more_terms rest)
more_terms (And e rest) = ap (λ more. codes " + " ++ expr_text e AsTerm ++ more) (more_terms rest)

terms : (es : Exprs) → row_text AsTerm true (expr_row es) ≡ terms_text es
terms es = grind (arith, nat_tests, more_terms)

pub lines : (first : Bool) (ss : Stmts) → row_text AsExpr first (stmt_row ss) ≡ text ss
lines first NoStmts = refl
lines first (Then s rest) = ap (λ more. stmt_text s ++ more) (lines false rest)

-- ---- A node

sum_in : (s : tree.Stand) (xs : List ℕ) → sum_text s xs ≡ before_kids kind.Sum [] s ++ (xs ++ behind_kids kind.Sum s)
sum_in s xs = grind (arith, nat_tests, append-nil)

product_in : (s : tree.Stand) (xs : List ℕ) → product_text s xs ≡ before_kids kind.Prod [] s ++ (xs ++ behind_kids kind.Prod s)
product_in s xs = grind (arith, nat_tests, append-nil)

module _ (m : Memory) (n : Node) (s : tree.Stand) where
  -- a node of this kind, whose children have this text
  abbrev pub of_kind : Kind → List ℕ → List ℕ
  of_kind kind.Num inner = number n.number
  of_kind kind.Name inner = text_bytes m n.text
  of_kind k inner = before_kids k (text_bytes m n.text) s ++ (inner ++ behind_kids k s)

  abbrev node_text : Subtree → Kind → List ℕ
  node_text t k = of_kind k (row_text (kids_stand k) true (kids_it t))

  pub text_is : (t : Subtree) → SubtreeAt t m n → (k : Kind) → n.kind ≡ k → tree_text t s ≡ node_text t k
  text_is t at k is = plain t at ∙ ap (node_text t) is
    where
      plain : (t : Subtree) → SubtreeAt t m n → tree_text t s ≡ node_text t n.kind
      plain (OfExpr (Num k)) at = sym (ap (node_text (OfExpr (Num k))) at.0 ∙ ap number at.1)
      plain (OfExpr (Name bytes)) at = sym (ap (node_text (OfExpr (Name bytes))) at.0 ∙ at.2)
      plain (OfExpr (Neg e)) at = sym (ap (node_text (OfExpr (Neg e))) at.0 ∙ simp append-nil)
      plain (OfExpr (Sum kids)) at =
          sum_in s (terms_text kids) ∙ sym (ap (node_text (OfExpr (Sum kids))) at.0 ∙ ap (of_kind kind.Sum) (terms kids))
      plain (OfExpr (Prod kids)) at =
          product_in s (factors_text kids) ∙ sym (ap (node_text (OfExpr (Prod kids))) at.0 ∙ ap (of_kind kind.Prod) (factors kids))
      plain (OfStmt (Let name e)) at = sym (ap (node_text (OfStmt (Let name e))) at.0 ∙
          rw (at.2, append-nil (expr_text e AsExpr)) (ap (λ x. codes "let " ++ x) (sym (append_assoc (name ++ codes " = ")
          (expr_text e AsExpr) (codes ";\n")))))
      plain (OfStmt (Show e)) at = sym (ap (node_text (OfStmt (Show e))) at.0 ∙ simp append-nil)
      plain (OfStmt (tree.Block body)) at = sym (ap (node_text (OfStmt (tree.Block body))) at.0 ∙ ap (of_kind kind.Block) (lines true body))

  pub inner_kind : (k : Kind) (inner : List ℕ) → (k ≡ kind.Num → ⊥) → (k ≡ kind.Name → ⊥)
      → of_kind k inner ≡ before_kids k (text_bytes m n.text) s ++ (inner ++ behind_kids k s)
  inner_kind k inner num name = grind (arith, nat_tests)

-- ---- A node of a list

pub taken_kids : (k : Kind) (s : tree.Stand) (first : Bool) → is_taken k s first ≡ true → has_kids k ≡ true
taken_kids k s first is = grind (arith, nat_tests)

pub taken_piece : (s : tree.Stand) (first : Bool) (t : Subtree) (m : Memory) (n : Node) → SubtreeAt t m n → is_taken n.kind s first ≡ true
    → piece s first t ≡ codes " - " ++ row_text s true (kids_it t)
taken_piece s first t m n at is = grind (arith, nat_tests, append-nil, true_false)

pub plain_piece : (s : tree.Stand) (first : Bool) (t : Subtree) (m : Memory) (n : Node) → SubtreeAt t m n → is_taken n.kind s first ≡ false
    → piece s first t ≡ joint s first ++ tree_text t s
plain_piece s first t m n at is = grind (arith, nat_tests, true_false)

-- the row goes on
pub row_more : (s : tree.Stand) (i : ℕ) (t : Subtree) (ts : List Subtree) (one two all : List ℕ) → drop i ts ≡ t ∷ drop (suc i) ts
    → two ≡ one ++ piece s (i == 0) t → one ++ row_text s (i == 0) (drop i ts) ≡ all
    → two ++ row_text s (i + 1 == 0) (drop (i + 1) ts) ≡ all
row_more s i t ts one two all next put is = rw (later i, add-one, put, append_assoc) (rw next at is)
  where
    later : (i : ℕ) → (i + 1 == 0) ≡ false
    later i = grind arith
