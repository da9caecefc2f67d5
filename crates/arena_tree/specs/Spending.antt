-- What reading parts of a text and placing their nodes costs.
use Rattle.std.specs.Prelude.{ℕ, ◌+◌, ◌-◌, ◌*◌, ◌≤◌, Bool, Result, Ok, Err, Option, Some, None, List, [], ◌∷◌, length}
use Rattle.arena_chunks.specs.Source.{View}
use Rattle.arena_chunks.specs.Frame.{Frame}
use Rattle.arena_vec.specs.declared.vec.Vec.{Vec}
pub use Rattle.tree_nodes.specs.Spending.{far_end, IsStarvedBehind, IsRefused, Stops, Spends, SpendsOnMore, error_of, node_cost, credit}
use Rattle.tree_nodes.specs.declared.node.Node.{Node}
use Rattle.tree_rules.specs.Tokens.{Token, Star}
use Rattle.tree_rules.specs.Trees.{Expr, Exprs}
use Rattle.tree_rules.specs.Grammar.{spell_factor, spell_factors, spell_terms, factor_tree, factors_tree, factor_trees, term_trees}
use Rattle.arena_tree.specs.TreesAt.{IsPlaced}
use Rattle.arena_tree.specs.Parts.{Reads, terms_at, sign_of}
use Rattle.arena_tree.specs.Subtrees.{expr_row, IsRowRead}
use Rattle.arena_items.specs.Denied.{Layouts}
use Rattle.arena_tree.specs.Stops.{cause}
use Rattle.arena_tree.specs.declared.stop.Stop.{Stop}

-- Any block: which one is refused is said by what is asked for.
abbrev pub AnyBlock : Layouts
AnyBlock size align = Unit {0}

-- what a part may cost, by its bytes, and how much of it is left
abbrev pub most_for : ℕ → ℕ
most_for bytes = 1024 * bytes

abbrev pub left_for_node : ℕ
left_for_node = 512

-- A part that begins at a byte wasn't read whole: what was placed for it is on blocks that were free.
abbrev pub Stopped : ℕ → List ℕ → View → View → Stop → Type 0
Stopped from bytes old new e =
    Spends AnyBlock (most_for (length bytes - from)) 0 0 old new (cause e) × Frame old.memory new.memory [] []

-- A part was read from a byte on up to another: its node is not in a list yet, and something is left for that.
abbrev pub SpendsUpTo : ℕ → List ℕ → View → View → Result ℕ Stop → Type 0
SpendsUpTo from bytes old new (Ok end) = Spends AnyBlock (most_for (end - from)) 0 left_for_node old new None
SpendsUpTo from bytes old new (Err e) = Stopped from bytes old new e

-- The first of several children was read up to an operator. Its node is in no list yet.
pub record IsFirst {P : Type 0} (tree : P → Expr) (spelled : P → List Token → List Token) (operator : Token) (deep : ℕ) (bytes : List ℕ)
    (from at : ℕ) (old now : View) (n : Node) : Type 0 where
  pub part : P
  pub read : Reads bytes from at (λ more. spelled part (operator ∷ more)) (terms_at deep) (terms_at deep)
  pub open read use *
  pub long : from + 2 ≤ at
  pub placed : IsPlaced (tree part) old.memory now.memory n
  pub spends : Spends AnyBlock (most_for (at - from)) 0 (1024 + node_cost) old now None

abbrev pub IsFirstFactor : ℕ → List ℕ → ℕ → ℕ → View → View → Node → Type 0
IsFirstFactor = IsFirst factor_tree spell_factor Star

abbrev pub IsFirstTerm : Bool → ℕ → List ℕ → ℕ → ℕ → View → View → Node → Type 0
IsFirstTerm minus = IsFirst factors_tree spell_factors (sign_of minus)

-- Children were read up to an operator. The nodes of the first are in a list, and these others in no list yet. What is
-- left is for those, for a child that may be negated, and what the list saved.
pub record AreRead {P : Type 0} (trees : P → Exprs) (spelled : P → List Token → List Token) (operator : Token) (deep : ℕ) (bytes : List ℕ)
    (from next : ℕ) (old now : View) (list : Vec Node) (nodes : List Node) : Type 0 where
  pub part : P
  pub read : Reads bytes from next (λ more. spelled part (operator ∷ more)) (terms_at deep) (terms_at deep)
  pub open read use *
  pub row : IsRowRead (expr_row (trees part)) old.memory now.memory list nodes
  pub few : 2 * (list.raw.len + length nodes) ≤ next - from
  pub spends : Spends AnyBlock (most_for (next - from)) 0 (1024 + (credit list + node_cost * length nodes)) old now None

abbrev pub FactorsRead : ℕ → List ℕ → ℕ → ℕ → View → View → Vec Node → List Node → Type 0
FactorsRead = AreRead factor_trees spell_factors Star

abbrev pub TermsRead : Bool → ℕ → List ℕ → ℕ → ℕ → View → View → Vec Node → List Node → Type 0
TermsRead minus = AreRead term_trees spell_terms (sign_of minus)

-- Statements were read, and their nodes are in a list; or none begins there.
abbrev pub SpendsAll : {X : Type 0} → ℕ → List ℕ → View → View → Result (X × ℕ) Stop → Type 0
SpendsAll from bytes old new (Ok r) = Spends AnyBlock (most_for (r.1 - from)) 0 0 old new None
SpendsAll from bytes old new (Err e) = Stopped from bytes old new e

abbrev pub SpendsOrNot : ℕ → List ℕ → View → View → Result (Option ℕ) Stop → Type 0
SpendsOrNot from bytes old new (Ok None) = Spends AnyBlock 0 0 0 old new None
SpendsOrNot from bytes old new (Ok (Some end)) = Spends AnyBlock (most_for (end - from)) 0 left_for_node old new None
SpendsOrNot from bytes old new (Err e) = Stopped from bytes old new e

abbrev pub SpendsWhole : {X : Type 0} → List ℕ → View → View → Result X Stop → Type 0
SpendsWhole bytes old new (Ok x) = Spends AnyBlock (most_for (length bytes)) 0 0 old new None
SpendsWhole bytes old new (Err e) = Stopped 0 bytes old new e
