-- One node more of a list whose values are computed.
use Rattle.std.proofs.lemmas.Bool.Decides.{nat_tests}
use Rattle.std.proofs.Common.{arith, ◌≡◌, ℕ, ◌+◌, ◌≤◌, List, [], ◌∷◌, ◌++◌, length, drop, Some, None, ap, ◌∙◌}
use Rattle.std.specs.Prelude.{slice_get, Option}
use Rattle.std.specs.Option.{option_and_then}
use Rattle.std.proofs.lemmas.List.{drop_all}
use Rattle.arena.proofs.AstLayers.{list_length}
use Rattle.arena.proofs.ItemLayers.{drop_item}
use Rattle.arena.specs.ByPartsType.{ByParts}
use Rattle.arena.specs.Vecs.{vec_list}
use Rattle.example_language.specs.Trees.{node_item}
use Rattle.example_language.specs.Values.{node_value, values_after, last_value, value_of}
use Rattle.example_language.specs.declared.nodes.Node.{Node}
use Rattle.example_language.proofs.values.value.Goals as goal

module _ (names values : List ℕ) (nodes : List (ByParts Node)) (i : ℕ) where
  module _ (node : ByParts Node) (here : slice_get nodes i ≡ Some node) where
    abbrev rest : ℕ → Option (List ℕ)
    rest v = values_after names (values ++ v ∷ []) (drop (i + 1) nodes)

    -- its value comes behind the others,
    value_more : (v : ℕ) → node_value names values node.0 ≡ Some v
        → values_after names values (drop i nodes) ≡ values_after names (values ++ v ∷ []) (drop (i + 1) nodes)
    value_more v is = ap (values_after names values) (drop_item nodes i node here) ∙ ap (option_and_then rest) is

    -- or there is none.
    value_none : node_value names values node.0 ≡ None → values_after names values (drop i nodes) ≡ values_after names [] nodes
        → value_of names nodes ≡ None
    value_none is before = grind (arith, nat_tests, drop_item)

  -- the last value, if all are computed
  value_last : length nodes ≤ i → values_after names values (drop i nodes) ≡ values_after names [] nodes
      → last_value values ≡ value_of names nodes
  value_last all before = grind (arith, nat_tests, drop_all)

-- The operands are below the node's index, which is how many values there are.
pub node_value-requires : goal.node_value-requires
node_value-requires g c = grind (arith, nat_tests)

pub each-preserved : goal.each-preserved
each-preserved g c = grind (arith, nat_tests, value_more)

pub returns-in_default : goal.returns-in_default
returns-in_default g c = grind (arith, nat_tests, value_none)

pub returns : goal.returns
returns g c =
    let last = value_last c.args.names.now c.each.values.items (vec_list node_item c.args.a.now.memory c.args.nodes.now) c.each.i
    (omega (arith, list_length node_item c.args.a.now.memory c.args.nodes.now)) c.each.invariant.values in
    cc
