-- The values of the nodes of a tree, and the value of the tree.
use Rattle.std.proofs.lemmas.Bool.Decides.{nat_tests}
use Rattle.std.proofs.Common.{◌≡◌, ℕ, ◌+◌, ◌-◌, List, [], ◌∷◌, ◌++◌, length, length-append, Some, None, refl, ap, sym, subst, ◌∙◌, arith}
use Rattle.std.specs.Prelude.{slice_get, slice_index, Option, unwrap_or, is_some, if◌then◌else◌, Bool}
use Rattle.std.specs.Option.{option_and_then}
use Rattle.std.proofs.lemmas.Bool.{cases_Bool}
use Rattle.std.proofs.lemmas.List.{places, append_assoc, get_or_push, length_push}
use Rattle.std.proofs.lemmas.Option.{none-some, same_Some, slice_get_read}
use Rattle.std.proofs.lemmas.Slice.Eq.{bytes_eq-Decides}
use Rattle.arena.specs.Interner.{number_of, with_text}
use Rattle.arena.proofs.SymbolLayers.{number_push}
use Rattle.arena.specs.AstRows.{Rows, no_rows, last_of}
use Rattle.arena.specs.ByPartsType.{ByParts}
use Rattle.example_language.specs.Meaning.{Expr, Num, Var, Join}
use Rattle.example_language.specs.Nodes.{sign_node}
use Rattle.example_language.specs.Placing.{placed}
use Rattle.example_language.specs.Values.{combined, node_value, values_after, last_value, value_of, both, tree_value}
use Rattle.example_language.specs.declared.nodes.Node.{Node}
use Rattle.example_language.specs.declared.nodes.Node.TheVariants.{Number, Name}
use Rattle.example_language.specs.declared.nodes.Sign.{Sign}
use Rattle.example_language.specs.declared.nodes.Sign.TheVariants.{Plus, Times}

-- ---- Numbers of names

-- each name keeps its number
abbrev KeepsNumbers : List (List ℕ) → List (List ℕ) → Type 0
KeepsNumbers names more = (name : List ℕ) (n : ℕ) → number_of names name ≡ Some n → number_of more name ≡ Some n

module _ (names : List (List ℕ)) (name : List ℕ) where
  -- the names with this one, by its number
  abbrev named_by : Option ℕ → List (List ℕ)
  named_by o = if is_some o then names else names ++ name ∷ []

  keeps_by : (o : Option ℕ) → number_of names name ≡ o → KeepsNumbers names (named_by o)
  keeps_by o there text n is = grind (arith, nat_tests, cases_Bool, none-some, bytes_eq-Decides, number_push)

  has_by : (o : Option ℕ) → number_of names name ≡ o → (n : ℕ) × (number_of (named_by o) name ≡ Some n)
  has_by (Some k) there = (k, there)
  has_by None new = (
    length names,
    number_push names name name new
        ∙ ap (λ (b : Bool). if b then Some (length names) else number_of names name) ((bytes_eq-Decides name name).1 refl),
  )

placed_keeps : (tree : Expr) (rows : Rows (ByParts Node)) → KeepsNumbers rows.names (placed tree rows).names
placed_keeps (Num k) rows name n is = is
placed_keeps (Var new) rows name n is = keeps_by rows.names new (number_of rows.names new) refl name n is
placed_keeps (Join sign l r) rows name n is = placed_keeps r (placed l rows) name n (placed_keeps l rows name n is)

-- ---- Values of nodes

sign_value : (sign : Sign) (values before : List ℕ) (m n : ℕ)
    → node_value values before (sign_node sign m n) ≡ Some (combined sign (slice_index before m) (slice_index before n))
sign_value Plus values before m n = refl
sign_value Times values before m n = refl

-- the items at two places, of which the second is the last
two_items : (xs ys : List ℕ) (a b m n : ℕ) → m ≡ length (xs ++ a ∷ []) - 1 → n ≡ length ((xs ++ a ∷ []) ++ (ys ++ b ∷ [])) - 1
    → (slice_index ((xs ++ a ∷ []) ++ (ys ++ b ∷ [])) m ≡ a) × (slice_index ((xs ++ a ∷ []) ++ (ys ++ b ∷ [])) n ≡ b)
two_items xs ys a b m n left right = grind (arith, places, length_push, append_assoc)

at_end : (xs : List ℕ) (v : ℕ) → last_value (xs ++ v ∷ []) ≡ Some v
at_end xs v = grind (arith, nat_tests, slice_get_read (xs ++ v ∷ []) (length xs + 1) (length xs) v, get_or_push, length_push)

module _ (values : List ℕ) where
  -- one node more
  abbrev with_value : Node → List ℕ → Option (List ℕ)
  with_value node before = option_and_then (λ (v : ℕ). Some (before ++ v ∷ [])) (node_value values before node)

  one_more : (nodes : List (ByParts Node)) (node : ByParts Node) (before : List ℕ)
      → values_after values before (nodes ++ node ∷ []) ≡ option_and_then (with_value node.0) (values_after values before nodes)
  one_more [] node before = refl
  one_more (first ∷ nodes) node before = grind (arith, nat_tests, one_more nodes node)

  -- each node has one value
  count : (nodes : List (ByParts Node)) (after before : List ℕ) → values_after values before nodes ≡ Some after
      → length after ≡ length before + length nodes
  count [] after before is = omega (arith, ap length (same_Some before after is))
  count (node ∷ nodes) after before is = grind (arith, nat_tests, none-some, count nodes after, length-append {A = ℕ})

  -- The values are those before, some others, and this one; or a name has none.
  abbrev Gives : Option (List ℕ) → Option ℕ → Option (List ℕ) → Type 0
  Gives None value after = after ≡ None
  Gives (Some before) None after = after ≡ None
  Gives (Some before) (Some v) after = (own : List ℕ) × (after ≡ Some (before ++ (own ++ v ∷ [])))

  leaf_gives : (node : Node) (o : Option (List ℕ)) (value : Option ℕ) → ((before : List ℕ) → node_value values before node ≡ value)
      → Gives o value (option_and_then (with_value node) o)
  leaf_gives node None value is = refl
  leaf_gives node (Some before) None is = ap (option_and_then (λ (v : ℕ). Some (before ++ v ∷ []))) (is before)
  leaf_gives node (Some before) (Some w) is = ([], ap (option_and_then (λ (v : ℕ). Some (before ++ v ∷ []))) (is before))

  sign_gives : (sign : Sign) (m n : ℕ) (o mid now : Option (List ℕ)) (a b : Option ℕ) → Gives o a mid → Gives mid b now
      → ((xs : List ℕ) → mid ≡ Some xs → m ≡ length xs - 1) → ((xs : List ℕ) → now ≡ Some xs → n ≡ length xs - 1)
      → Gives o (both sign a b) (option_and_then (with_value (sign_node sign m n)) now)
  sign_gives sign m n None mid now a b left right at end =
      ap (option_and_then (with_value (sign_node sign m n))) (subst (λ (k : Option (List ℕ)). Gives k b now) left right)
  sign_gives sign m n (Some before) mid now None b left right at end =
      ap (option_and_then (with_value (sign_node sign m n))) (subst (λ (k : Option (List ℕ)). Gives k b now) left right)
  sign_gives sign m n (Some before) mid now (Some a) None left right at end =
      ap (option_and_then (with_value (sign_node sign m n))) (subst (λ (k : Option (List ℕ)). Gives k None now) left.1 right)
  sign_gives sign m n (Some before) mid now (Some a) (Some b) left right at end =
      let xs = before ++ left.0 in
      let mid_is = left.1 ∙ ap (λ (ys : List ℕ). Some ys) (sym (append_assoc before left.0 (a ∷ []))) in
      let both = subst (λ (k : Option (List ℕ)). Gives k (Some b) now) mid_is right in
      let items = two_items xs both.0 a b m n (at (xs ++ a ∷ []) mid_is) (end ((xs ++ a ∷ []) ++ (both.0 ++ b ∷ [])) both.1) in (
        left.0 ++ a ∷ [] ++ (both.0 ++ b ∷ []),
        ap (option_and_then (with_value (sign_node sign m n))) both.1
            ∙ ap (option_and_then (λ (v : ℕ). Some (((xs ++ a ∷ []) ++ (both.0 ++ b ∷ [])) ++ v ∷ [])))
            (sign_value sign values ((xs ++ a ∷ []) ++ (both.0 ++ b ∷ [])) m n ∙ (λ i. Some (combined sign (items.0 i) (items.1 i))))
            ∙ ap (λ (ys : List ℕ). Some ys) (simp append_assoc),
      )

  abbrev state : Rows (ByParts Node) → Option (List ℕ)
  state rows = values_after values [] rows.nodes

  last_at : (rows : Rows (ByParts Node)) (xs : List ℕ) → state rows ≡ Some xs → last_of rows ≡ length xs - 1
  last_at rows xs is = omega (arith, count rows.nodes xs [] is)

  tree_gives : (tree : Expr) (names : List (List ℕ)) (rows : Rows (ByParts Node)) → KeepsNumbers (placed tree rows).names names
      → Gives (state rows) (tree_value values names tree) (state (placed tree rows))
  tree_gives (Num n) names rows keeps =
      subst (Gives (state rows) (Some n)) (sym (one_more rows.nodes (record { 0 = Number n }) []))
      (leaf_gives (Number n) (state rows) (Some n) (λ before. refl))
  tree_gives (Var name) names rows keeps =
      let has = has_by rows.names name (number_of rows.names name) refl in
      let node = Name (unwrap_or (number_of (with_text rows.names name) name) 0) in
      subst (Gives (state rows) (tree_value values names (Var name))) (sym (one_more rows.nodes (record { 0 = node }) []))
      (leaf_gives node (state rows) (tree_value values names (Var name))
      (λ before. ap (λ (o : Option ℕ). slice_get values (unwrap_or o 0)) has.1
      ∙ sym (ap (option_and_then (slice_get values)) (keeps name has.0 has.1))))
  tree_gives (Join sign l r) names rows keeps =
      let left = placed l rows in
      let right = placed r left in
      subst (Gives (state rows) (tree_value values names (Join sign l r)))
      (sym (one_more right.nodes (record { 0 = sign_node sign (last_of left) (last_of right) }) []))
      (sign_gives sign (last_of left) (last_of right) (state rows) (state left) (state right) (tree_value values names l)
      (tree_value values names r) (tree_gives l names rows (λ name n at. keeps name n (placed_keeps r left name n at)))
      (tree_gives r names left keeps) (last_at left) (last_at right))

  last_gives : (value : Option ℕ) (after : Option (List ℕ)) → Gives (Some []) value after → option_and_then last_value after ≡ value
  last_gives None after none = ap (option_and_then last_value) none
  last_gives (Some v) after gives = ap (option_and_then last_value) gives.1 ∙ at_end gives.0 v

pub value_placed : (values : List ℕ) (tree : Expr)
    → value_of values (placed tree no_rows).nodes ≡ tree_value values (placed tree no_rows).names tree
value_placed values tree =
    last_gives values (tree_value values (placed tree no_rows).names tree) (state values (placed tree no_rows))
    (tree_gives values tree (placed tree no_rows).names no_rows (λ name n is. is))
