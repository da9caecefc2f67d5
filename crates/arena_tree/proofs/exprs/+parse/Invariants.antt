use Rattle.std.proofs.Common.{ℕ, ◌≡◌, length, take, ◌+◌, ◌-◌, ◌*◌, ◌<◌, ◌≤◌}
use Rattle.arena_chunks.specs.Source.{View}
use Rattle.arena_vec.specs.Vecs.{IsVecIn}
use Rattle.arena_tree.specs.TreesAt.{node_item}
use Rattle.tree_rules.specs.Tokens.{Star}
use Rattle.tree_rules.specs.Grammar.{spell_factors, spell_terms}
use Rattle.arena_tree.specs.Parts.{sign_of}
use Rattle.arena_tree.specs.Asking.{FirstFactorRan, FirstTermRan, RowRead, factors_row, terms_row}
use Rattle.arena_tree.specs.Spending.{IsFirstFactor, IsFirstTerm, FactorsRead, TermsRead}
use Rattle.arena_tree.proofs.exprs.+parse.Given as goal

abbrev pub decreases-expr : goal.decreases-expr
decreases-expr g l = 4 * (length l.src.now - l.at) + 2

abbrev pub decreases-factor : goal.decreases-factor
decreases-factor g l = 4 * (length l.src.now - l.at)

abbrev pub decreases-factors : goal.decreases-factors
decreases-factors g l = 4 * (length l.src.now - l.at) + 1

abbrev pub decreases-minus : goal.decreases-minus
decreases-minus g l = 4 * (length l.src.now - l.behind) + 3

abbrev pub decreases-paren : goal.decreases-paren
decreases-paren g l = 4 * (length l.src.now - l.behind) + 3

abbrev pub decreases-terms : goal.decreases-terms
decreases-terms g l = 4 * (length l.src.now - l.at) + 2

abbrev pub decreases-term : goal.decreases-term
decreases-term g l = 4 * (length l.src.now - l.at) + 1

abbrev pub invariant-factors-loop-stop : goal.invariant-factors-loop-stop
invariant-factors-loop-stop g l = record {
  within : (l.at ≤ l.here) × (l.here ≤ length l.src);
  few : (l.count < 4) × (2 * (l.list.raw.len + l.count) ≤ l.here - l.at + 2);
  nodes : length l.nodes ≡ 4;
  held : IsVecIn node_item l.a.memory l.list;
  read : (from : ℕ) (old : View) → IsFirstFactor l.deep l.src from l.at old l.fn.a l.fn.node
      → FactorsRead l.deep l.src from l.here old l.a l.list (take l.count l.nodes);
  row : (from : ℕ) (old : View) → FirstFactorRan l.src from l.at old l.fn.a
      → RowRead spell_factors factors_row Star l.src from l.here old l.a l.list l.count;
}

abbrev pub decreases-factors-loop-stop : goal.decreases-factors-loop-stop
decreases-factors-loop-stop g l = length l.src - l.here

abbrev pub invariant-terms-loop-stop : goal.invariant-terms-loop-stop
invariant-terms-loop-stop g l = record {
  within : (l.at ≤ l.here) × (l.here ≤ length l.src);
  few : (l.count < 4) × (2 * (l.list.raw.len + l.count) ≤ l.here - l.at + 2);
  nodes : length l.nodes ≡ 4;
  held : IsVecIn node_item l.a.memory l.list;
  read : (from : ℕ) (old : View) → IsFirstTerm l.first l.deep l.src from l.at old l.fn.a l.fn.node
      → TermsRead l.minus l.deep l.src from l.here old l.a l.list (take l.count l.nodes);
  row : (from : ℕ) (old : View) → FirstTermRan l.first l.src from l.at old l.fn.a
      → RowRead spell_terms terms_row (sign_of l.minus) l.src from l.here old l.a l.list l.count;
}

abbrev pub decreases-terms-loop-stop : goal.decreases-terms-loop-stop
decreases-terms-loop-stop g l = length l.src - l.here
