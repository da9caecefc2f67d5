-- Totals of nodes that are numbers, from the last one on.
use Rattle.std.proofs.lemmas.Bool.Decides.{nat_tests}
use Rattle.std.proofs.Common.{arith, ◌≡◌, ℕ, suc, zero, ◌≤◌, ap, refl, Bool, true, false, Option, Some, None, List, [], ◌∷◌, length, drop, add-one}
use Rattle.std.specs.Prelude.{slice_get}
use Rattle.std.proofs.lemmas.List.{drop_all}
use Rattle.arena_items.proofs.Layers.{drop_item}
use Rattle.tree_nodes.specs.declared.node.Kind.{Kind}
use Rattle.tree_nodes.specs.declared.node.Kind.TheVariants as kind
use Rattle.tree_nodes.specs.declared.node.Node.{Node}
use Rattle.arena_tree.specs.FoldingParts.{total_of, total_in, capped, added, number_before, numbers_in, IsTail}
use Rattle.tree_nodes.proofs.WalkLemmas.{some_node, none_node}

pub tail_begins : (product : Bool) (ns : List Node) (i t : ℕ) → length ns ≤ i → t ≡ total_of product []
    → IsTail product (numbers_in (drop i ns)) (Some t)
tail_begins product ns i t end is = rw (drop_all i ns end) (first product is)
  where
    first : (product : Bool) → t ≡ total_of product [] → IsTail product (Some []) (Some t)
    first true is = ap Some is
    first false is = ap Some is

pub tail_more : (product : Bool) (ns : List Node) (i j : ℕ) (k : Node) (total next : Option ℕ) → i ≡ suc j → slice_get ns j ≡ Some k
    → k.kind ≡ kind.Num → IsTail product (numbers_in (drop i ns)) total
    → ((t : ℕ) → total ≡ capped t → next ≡ capped (added product k.number t)) → IsTail product (numbers_in (drop j ns)) next
tail_more product ns i j k total next is get named tail step =
    rw (drop_item ns j k get, add-one, named) (front product (numbers_in (drop (suc j) ns)) (rw is at tail) step)
  where
    front : (product : Bool) (o : Option (List ℕ)) → IsTail product o total
        → ((t : ℕ) → total ≡ capped t → next ≡ capped (added product k.number t)) → IsTail product (number_before o kind.Num k.number) next
    front product None tail step = absurd tail
    front true (Some ks) tail step = step (total_of true ks) tail
    front false (Some ks) tail step = step (total_of false ks) tail

pub tail_whole : (product : Bool) (o : Option (List ℕ)) (found : Option ℕ) → IsTail product o found → found ≡ total_in (total_of product) o
tail_whole product o found tail = grind (arith, nat_tests)

-- a node that is no number
pub no_total : (product : Bool) (ns : List Node) (i : ℕ) (k : Node) → slice_get ns i ≡ Some k → (k.kind ≡ kind.Num → ⊥)
    → None ≡ total_in (total_of product) (numbers_in ns)
no_total product ns i k get not = rw (none ns i get)
  where
    other : (k : Kind) (o : Option (List ℕ)) (n : ℕ) → (k ≡ kind.Num → ⊥) → number_before o k n ≡ None
    other k None n not = refl
    other kind.Num (Some ns) n not = absurd (not refl)
    other k (Some ns) n not = refl

    none : (ns : List Node) (i : ℕ) → slice_get ns i ≡ Some k → numbers_in ns ≡ None
    none [] i get = absurd (none_node k get)
    none (n ∷ ns) zero get = rw (some_node n k get) (other k.kind (numbers_in ns) k.number not)
    none (n ∷ ns) (suc i) get = rw (none ns i get)
