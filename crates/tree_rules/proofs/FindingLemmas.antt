-- What is found in a text, part by part.
use Rattle.std.proofs.Common.{◌≡◌, ℕ, List, [], ◌∷◌, ◌++◌, refl, ap, ◌∙◌, inl, inr}
use Rattle.std.proofs.lemmas.Bool.{cases_Bool}
use Rattle.tree_rules.specs.Trees.{Stmt, Let, Show, Block, Stmts, NoStmts, Then}
use Rattle.tree_rules.specs.Report.{NameSet, has_name, have_name, undefined, finding, defined, Walk, walk_stmt, walk}
use Rattle.tree_rules.specs.declared.finding.Finding.{Finding}
use Rattle.tree_rules.specs.declared.finding.FindKind.TheVariants.{Undefined}

-- The undefined names of two lists are those of each.
pub undefined_both : (sets : List NameSet) (a b : List (List ℕ)) → undefined sets (a ++ b) ≡ undefined sets a ++ undefined sets b
undefined_both sets [] b = refl
undefined_both sets (n ∷ a) b = elim (cases_Bool (have_name sets n)) [
  | inl is ↦ rw is (undefined_both sets a b)
  | inr away ↦ rw away (ap (λ (l : List Finding). finding Undefined n ∷ l) (undefined_both sets a b))
]

-- A walk changes the innermost set alone.
pub record OneChanged (walked : Walk) (outer : List NameSet) : Type 0 where
  pub names : NameSet
  pub known : walked.known ≡ names ∷ outer

defined_outer : (name : List ℕ) (names : NameSet) (outer : List NameSet) → OneChanged (defined name (names ∷ outer)) outer
defined_outer name names outer = elim (cases_Bool (has_name names name)) [
  | inl has ↦ record { names = names; known = rw has refl }
  | inr new ↦ elim (cases_Bool (have_name outer name)) [
    | inl has ↦ record { names = name ∷ names; known = rw (new, has) refl }
    | inr none ↦ record { names = name ∷ names; known = rw (new, none) refl }
  ]
]

mutual
  unfolding walk_stmt walk

  stmt_outer : (s : Stmt) (names : NameSet) (outer : List NameSet) → OneChanged (walk_stmt s (names ∷ outer)) outer
  stmt_outer (Let name e) names outer = let d = defined_outer name names outer in record { names = d.names; known = d.known }
  stmt_outer (Show e) names outer = record { names = names; known = refl }
  stmt_outer (Block body) names outer = record { names = names; known = refl }

  pub walk_outer : (ss : Stmts) (names : NameSet) (outer : List NameSet) → OneChanged (walk ss (names ∷ outer)) outer
  walk_outer NoStmts names outer = record { names = names; known = refl }
  walk_outer (Then s rest) names outer =
      let one = stmt_outer s names outer in
      let two = walk_outer rest one.names outer in
      record { names = two.names; known = ap (λ (sets : List NameSet). (walk rest sets).known) one.known ∙ two.known }
