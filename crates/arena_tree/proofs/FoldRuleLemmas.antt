-- The rule for one node whose children are folded: negations of negations, and totals of numbers.
use Rattle.std.proofs.lemmas.Bool.Decides.{nat_tests}
use Rattle.std.proofs.Common.{arith, ◌≡◌, ℕ, ◌^◌, ap, refl, subst, ◌∙◌, Bool, true, false, Option, Some, None, List, [], ◌∷◌}
use Rattle.std.specs.Prelude.{slice_get, IfSome, nat_lt, if◌then◌else◌}
use Rattle.arena_chunks.specs.Memory.{Memory}
use Rattle.tree_rules.specs.Trees.{Expr, Num, Neg, Sum, Prod, Exprs, NoExprs, And, Let, front_number, numbers_of, sum, product, reckoned, one_if_reckoned}
use Rattle.tree_nodes.specs.declared.node.Kind.{Kind}
use Rattle.tree_nodes.specs.declared.node.Kind.TheVariants as kind
use Rattle.tree_nodes.specs.declared.node.Node.{Node}
use Rattle.arena_tree.specs.TreesAt.{kids_in, IsOnly, ExprAt, ExprsAt, AreLean}
use Rattle.arena_tree.specs.NodeForms.{number_node}
use Rattle.arena_tree.specs.Subtrees.{Subtree, OfExpr, OfStmt, SubtreeAt, lists_at, texts_at}
use Rattle.arena_tree.specs.FoldingParts.{Replaces, IsNegation, or_stays, once_if, IsRule, number_before, numbers_in, total_of, total_in, IsTotalNode}
use Rattle.arena_tree.proofs.FoldBlockLemmas.{shrinks_none}
use Rattle.tree_nodes.proofs.LeanLemmas.{below_lean, number_lean}
use Rattle.tree_nodes.proofs.WalkLemmas.{some_node}

stays : (t : Subtree) (m : Memory) (n : Node) → SubtreeAt t m n → Replaces t t m n n
stays t m n at = record { stands = at; shrinks = shrinks_none (lists_at t m n) (texts_at t m n) }

pub other_stays : (m : Memory) (n : Node) → (n.kind ≡ kind.Neg → ⊥) → (n.kind ≡ kind.Sum → ⊥) → (n.kind ≡ kind.Prod → ⊥)
    → IsRule m n None
other_stays m n neg sum prod h at = grind (arith, nat_tests, stays)

-- ---- Negations

pub negation_is : (t : Subtree) (m : Memory) (n : Node) → SubtreeAt t m n → n.kind ≡ kind.Neg → IsNegation m n
negation_is (OfExpr (Neg e)) m n at is = record { kid = e; stands = at }
negation_is (OfStmt (Let name e)) m n at is = cc
negation_is t m n at is = cc

pub only_is : (ns : List Node) (P : Node → Type 0) (k : Node) → IsOnly ns P → slice_get ns 0 ≡ Some k → ns ≡ k ∷ []
only_is ns P k only is = grind (arith, nat_tests, some_node)

-- what the only child negates, if it does
abbrev IsInner : Memory → Node → Option Node → Type 0
IsInner m k None = k.kind ≡ kind.Neg → ⊥
IsInner m k (Some inner) = (k.kind ≡ kind.Neg) × (kids_in m k ≡ inner ∷ [])

pub neg_rule : (m : Memory) (n k : Node) (found : Option Node) → n.kind ≡ kind.Neg → kids_in m n ≡ k ∷ [] → IsInner m k found
    → IsRule m n found
neg_rule m n k (Some inner) is one two (OfExpr (Neg (Neg g))) at =
    let own = rw one at at.2 in (
      record {
        stands = rw two.1 at own.2;
        shrinks = rw (one, two.1) (record { pairs = λ h. h.1.1; lists_in = λ addr j h. h.1.1; texts_in = λ addr j h. h });
      },
      refl,
    )
neg_rule m n k None is one not (OfExpr (Neg (Neg g))) at = absurd (not (rw one at at.2).0)
neg_rule m n k (Some inner) is one two (OfExpr (Neg e)) at = let own = rw one at at.2 in cc
neg_rule m n k None is one not (OfExpr (Neg e)) at = (stays (OfExpr (Neg e)) m n at, refl)
neg_rule m n k found is one inner (OfStmt (Let name e)) at = cc
neg_rule m n k found is one inner t at = cc

pub inner_lean : (m : Memory) (n k inner : Node) → kids_in m n ≡ k ∷ [] → kids_in m k ≡ inner ∷ [] → AreLean m (n ∷ [])
    → AreLean m (inner ∷ [])
inner_lean m n k inner one two lean = subst (AreLean m) two (below_lean m k (subst (AreLean m) one (below_lean m n lean)))

-- ---- Totals

pub total_lean : (m : Memory) (found : Option Node) → IfSome found (λ n. n ≡ number_node n.number)
    → IfSome found (λ n. AreLean m (n ∷ []))
total_lean m None is = tt
total_lean m (Some n) is = number_lean m n.number n is

-- The total replaces the node, if there is one.
totalled : (total : List ℕ → ℕ) (o : Option (List ℕ)) (e : Expr) (m : Memory) (n : Node) (found : Option Node)
    → IsTotalNode (total_in total o) found → ExprAt e m n
    → Replaces (OfExpr e) (OfExpr (reckoned total o e)) m n (or_stays found n) × (once_if found ≡ one_if_reckoned total o)
totalled total None e m n None is at = (stays (OfExpr e) m n at, refl)
totalled total None e m n (Some after) is at = cc
totalled total (Some ns) e m n found is at = by (nat_lt (total ns) (2 ^ 64)) found is
  where
    by : (b : Bool) (found : Option Node) → IsTotalNode (if b then Some (total ns) else None) found
        → Replaces (OfExpr e) (OfExpr (if b then Num (total ns) else e)) m n (or_stays found n) × (once_if found ≡ (if b then 1 else 0))
    by true None is = cc
    by true (Some after) is = (
      record {
        stands = (is.0, cc);
        shrinks = record { pairs = λ h. tt; lists_in = λ addr k h. tt; texts_in = λ addr k h. tt };
      },
      refl,
    )
    by false None is = (stays (OfExpr e) m n at, refl)
    by false (Some after) is = cc

-- the numbers of children are those of their nodes
numbers_are : (es : Exprs) (m : Memory) (ns : List Node) → ExprsAt es m ns → numbers_of es ≡ numbers_in ns
numbers_are NoExprs m [] at = refl
numbers_are (And e rest) m (n ∷ ns) at = ap (front_number e) (numbers_are rest m ns at.1) ∙ front e (numbers_in ns) at.0
  where
    front : (e : Expr) (o : Option (List ℕ)) → ExprAt e m n → front_number e o ≡ number_before o n.kind n.number
    front (Num k) None at = refl
    front (Num k) (Some ks) at = rw (at.0, at.1)
    front e None at = refl
    front e (Some ks) at = rw at.0
numbers_are es m ns at = absurd at

abbrev pub total_kind : Bool → Kind
total_kind false = kind.Sum
total_kind true = kind.Prod

pub total_rule : (product : Bool) (m : Memory) (n : Node) (found : Option Node) → n.kind ≡ total_kind product
    → IsTotalNode (total_in (total_of product) (numbers_in (kids_in m n))) found → IsRule m n found
total_rule false m n found is total (OfExpr (Sum kids)) at =
    totalled sum (numbers_of kids) (Sum kids) m n found (rw (numbers_are kids m (kids_in m n) at.2) total) at
total_rule true m n found is total (OfExpr (Prod kids)) at =
    totalled product (numbers_of kids) (Prod kids) m n found (rw (numbers_are kids m (kids_in m n) at.2) total) at
total_rule false m n found is total (OfStmt (Let name e)) at = cc
total_rule true m n found is total (OfStmt (Let name e)) at = cc
total_rule false m n found is total t at = cc
total_rule true m n found is total t at = cc
