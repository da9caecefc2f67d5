-- Children whose nodes are gathered before they go into a list.
use Rattle.std.proofs.lemmas.Bool.Decides.{nat_tests}
use Rattle.std.proofs.Common.{◌≡◌, ℕ, ◌+◌, ◌-◌, ◌*◌, ◌<◌, ◌≤◌, Bool, refl, sym, ◌∙◌, subst, List, [], ◌∷◌, ◌++◌, length, length-set, length-take, get_or, take, set, arith, Ok, Option, None}
use Rattle.std.proofs.lemmas.List.{take_all, take-set, take_more_set, get_or-set_same}
use Rattle.arena_chunks.specs.Memory.{Memory}
use Rattle.arena_chunks.specs.Source.{View}
use Rattle.arena_items.specs.Denied.{Layouts}
use Rattle.arena_items.specs.declared.room.AllocError.{AllocError}
use Rattle.arena_vec.specs.declared.vec.Vec.{Vec}
use Rattle.tree_rules.specs.Tokens.{Token}
use Rattle.tree_rules.specs.Trees.{Expr, Exprs}
use Rattle.tree_rules.specs.Grammar.{Times, spell_factors, spell_terms, factor_tree, factors_tree, factor_trees, term_trees}
use Rattle.tree_rules.specs.Refusals.{most_nest}
use Rattle.tree_nodes.specs.declared.node.Node.{Node}
use Rattle.tree_nodes.proofs.SpendingLemmas.{spends_then, spends_more, asks_any, frees_then}
use Rattle.tree_nodes.proofs.RowLemmas.{read_none, read_more, read_frame, exprs_more}
use Rattle.arena_tree.specs.TreesAt.{IsPlaced}
use Rattle.arena_tree.specs.Subtrees.{Subtree, OfExpr, IsTreePlaced, IsRowBuilt, IsRowRead, expr_row}
use Rattle.arena_tree.specs.Parts.{IsFactor, IsTerm, Reads, terms_at, terms_behind, signed_tree}
use Rattle.arena_tree.specs.Spending.{AnyBlock, Spends, Stopped, SpendsUpTo, IsFirst, AreRead, FactorsRead, TermsRead, most_for, node_cost, credit}
use Rattle.arena_tree.specs.declared.stop.Stop.{Stop}
use Rattle.arena_tree.proofs.PartCostLemmas.{stops_then}
use Rattle.arena_tree.proofs.PartLemmas.{reads_then, reads_plain, reads_terms, terms_more, joined}

-- the first child, behind which an operator comes
pub first_child : {P : Type 0} {tree : P → Expr} {spelled : P → List Token → List Token} {operator : Token} {deep at end next : ℕ}
    {src : List ℕ} {old now : View} {n : Node} → SpendsUpTo at src old now (Ok end) → (part : P)
    → Reads src at end (spelled part) (terms_at deep) (terms_behind deep) → IsPlaced (tree part) old.memory now.memory n
    → Reads src end next (λ more. operator ∷ more) (terms_behind deep) (terms_at deep)
    → IsFirst tree spelled operator deep src at next old now n
first_child spends part read placed operator = record {
  part = part;
  read = reads_then read operator;
  long = omega (arith, read.later, operator.later);
  placed = placed;
  spends = asks_any (spends_more spends (omega (arith, operator.later)) (omega (arith, read.later, operator.later)));
}

pub set_twice : {many : ℕ} (nodes : List Node) (count : ℕ) (n m : Node) → length nodes ≡ many → length (set (set nodes count n) count m) ≡ many
set_twice nodes count n m long = length-set (set nodes count n) count m ∙ length-set nodes count n ∙ long

-- Children, and one more up to a byte. The nodes of the first are in a list, and its node is the last of these others.
pub record AreBehind {P : Type 0} (trees : P → Exprs) (spelled : P → List Token → List Token) (part : P) (deep : ℕ) (bytes : List ℕ)
    (from end : ℕ) (old now : View) (list : Vec Node) (front nodes : List Node) : Type 0 where
  pub read : Reads bytes from end (spelled part) (terms_at deep) (terms_behind deep)
  pub open read use *
  pub row : IsRowRead (expr_row (trees part)) old.memory now.memory list nodes
  pub more : length nodes ≡ length front + 1
  pub few : 2 * (list.raw.len + length nodes) ≤ end - from + 1
  pub spends : Spends AnyBlock (most_for (end - from)) 0 (1177 + (credit list + node_cost * length front)) old now None

-- ---- One more child

-- It may be negated, which leaves less.
pub kid_read : {P : Type 0} {trees : P → Exprs} {spelled : P → List Token → List Token} {operator : Token} {deep from here end : ℕ}
    {src : List ℕ} {old one two : View} {list : Vec Node} {nodes : List Node}
    → AreRead trees spelled operator deep src from here old one list nodes → SpendsUpTo here src one two (Ok end) → here < end
    → Spends AnyBlock (most_for (end - from)) 0 (1536 + (credit list + node_cost * length nodes)) old two None
kid_read r kid later = spends_then r.spends kid (read_frame r.row) (omega (arith, later)) (omega (arith, r.later, later))
    (omega (arith, r.later, later))

module _ (nodes : List Node) (count : ℕ) (low : count < 4) (four : length nodes ≡ 4) where
  row_next : {ts : List Subtree} {old one two : Memory} {v : Vec Node} (t : Subtree) (n : Node) (others : List Node)
      → length others ≡ length nodes → IsRowRead ts old one v (take count others) → IsTreePlaced t one two n
      → IsRowRead (ts ++ t ∷ []) old two v (take (count + 1) (set others count n))
  row_next {ts} {old} {two = x2} {v} t n others same row placed = grind (arith, nat_tests, take_more_set, read_more)

  length_next : (others : List Node) → length others ≡ length nodes → length (take (count + 1) others) ≡ length (take count nodes) + 1
  length_next others same = omega (arith, length-take (count + 1) others, length-take count nodes, same, low, four)

  -- what is placed for a term with its sign
  pub sign_placed : (minus : Bool) (none : Node) {e : Expr} {old one two : Memory} {n m : Node} → IsPlaced e old one n
      → ((e : Expr) (old : Memory) → IsPlaced e old one (get_or (set nodes count n) count none) → IsPlaced (signed_tree minus e) old two m)
      → IsPlaced (signed_tree minus e) old two m
  sign_placed minus none {e} {old} {one} {n = n} placed sign =
      sign e old (subst (IsPlaced e old one) (sym (get_or-set_same nodes count n none (omega (arith, low, four)))) placed)

  module _ {deep from here end : ℕ} {src : List ℕ} {old one two : View} {list : Vec Node} {n : Node} (nest : deep ≤ most_nest)
      (spends : SpendsUpTo here src one two (Ok end)) where
    pub factor_more : (r : FactorsRead deep src from here old one list (take count nodes))
        → (k : IsFactor deep src here end one.memory two.memory n)
        → AreBehind factor_trees spell_factors (Times r.part k.part) deep src from end old two list (take count nodes)
        (take (count + 1) (set nodes count n))
    factor_more r k =
        let more = length_next (set nodes count n) (length-set nodes count n) in
        record {
          read = reads_then r.read (reads_plain nest k.read);
          row = exprs_more (factor_trees r.part) (factor_tree k.part)
              (row_next (OfExpr (factor_tree k.part)) n nodes refl r.row k.placed);
          more = more;
          few = omega (arith, r.few, more, r.later, k.later);
          spends = spends_more (kid_read r spends k.later) (omega arith) (omega arith);
        }

    pub term_more : {layouts : Layouts} {three : View} {m : Node} (minus : Bool) (none : Node)
        → (r : TermsRead minus deep src from here old one list (take count nodes))
        → (k : IsTerm deep src here end one.memory two.memory n) → Spends layouts node_cost 0 0 two three None
        → ((e : Expr) (old : Memory) → IsPlaced e old two.memory (get_or (set nodes count n) count none)
        → IsPlaced (signed_tree minus e) old three.memory m)
        → AreBehind term_trees spell_terms (joined minus r.part k.part) deep src from end old three list (take count nodes)
        (take (count + 1) (set (set nodes count n) count m))
    term_more {m = m} minus none r k negated sign =
        let same = length-set nodes count n in
        let more = length_next (set (set nodes count n) count m) (set_twice nodes count n m refl) in
        record {
          read = reads_terms minus r.part k.part r.read k.read;
          row = terms_more minus r.part k.part (row_next (OfExpr (signed_tree minus (factors_tree k.part))) m (set nodes count n) same
              (subst (IsRowRead (expr_row (term_trees r.part)) old.memory one.memory list) (sym (take-set nodes count n)) r.row) (sign_placed minus none k.placed sign));
          more = more;
          few = omega (arith, r.few, more, r.later, k.later);
          spends = asks_any (spends_then (kid_read r spends k.later) negated (frees_then (read_frame r.row) k.placed.frame) (omega arith) (omega arith) (omega arith));
        }

-- ---- And then

module _ {P : Type 0} {trees : P → Exprs} {spelled : P → List Token → List Token} {deep from : ℕ} {src : List ℕ} {old now : View}
    {list : Vec Node} where
  module _ {part : P} {end : ℕ} {front nodes : List Node} where
    -- no operator, or no room for more: their nodes go into a list
    pub put_all : {layouts : Layouts} {left all rest : ℕ} {new : View} {error : Option AllocError}
        → AreBehind trees spelled part deep src from end old now list front nodes
        → Spends layouts (node_cost * length nodes) (credit list) left now new error → end - from ≤ all → rest ≤ 818 + left
        → Spends layouts (most_for all) 0 rest old new error
    put_all b put within paid = spends_then b.spends put (read_frame b.row) (omega (arith, within)) (omega (arith, b.more, within))
        (omega (arith, b.more, within, paid))

    -- an operator
    pub read_on : {operator : Token} {next : ℕ} → AreBehind trees spelled part deep src from end old now list front nodes
        → Reads src end next (λ more. operator ∷ more) (terms_behind deep) (terms_at deep)
        → AreRead trees spelled operator deep src from next old now list nodes
    read_on b operator = record {
      part = part;
      read = reads_then b.read operator;
      row = b.row;
      few = omega (arith, b.few, operator.later);
      spends = asks_any (spends_more b.spends (omega (arith, operator.later)) (omega (arith, b.more, b.later, operator.later)));
    }

    -- there is no room for more
    pub whole : {n : ℕ} → AreBehind trees spelled part deep src from end old now list front (take n nodes) → length nodes ≡ n
        → AreBehind trees spelled part deep src from end old now list front nodes
    whole {n} b all = subst (AreBehind trees spelled part deep src from end old now list front) (take_all n nodes (omega (arith, all))) b

  -- the next one wasn't read whole
  pub stop_behind : {operator : Token} {here : ℕ} {nodes : List Node} {new : View} (e : Stop)
      → AreRead trees spelled operator deep src from here old now list nodes → Stopped here src now new e → Stopped from src old new e
  stop_behind e r stopped =
      stops_then e r.spends stopped (read_frame r.row) (omega (arith, r.within)) (omega (arith, r.within, r.later))

  -- their nodes went into a list
  pub read_into : {operator : Token} {next : ℕ} {nodes : List Node} {layouts : Layouts} {new : View} {longer : Vec Node}
      → (r : AreRead trees spelled operator deep src from next old now list nodes)
      → Spends layouts (node_cost * length nodes) (credit list) (credit longer) now new None → longer.raw.len ≡ list.raw.len + length nodes
      → (IsRowRead (expr_row (trees r.part)) old.memory now.memory list nodes → IsRowBuilt (expr_row (trees r.part)) old.memory new.memory longer)
      → AreRead trees spelled operator deep src from next old new longer []
  read_into r put len built = record {
    part = r.part;
    read = r.read;
    row = read_none (built r.row);
    few = omega (arith, r.few, len);
    spends = asks_any (spends_then r.spends put (read_frame r.row) (omega arith) (omega arith) (omega arith));
  }
