-- What calls on a tree's nodes leave of its names, and the other way round.
use Rattle.std.proofs.lemmas.Bool.Decides.{nat_tests}
use Rattle.std.proofs.Common.{◌≡◌, ℕ, zero, suc, List, [], ◌∷◌, ◌++◌, length, Some, refl, sym, ap, subst, arith, Result, slice_get, ◌⊎◌, inl, inr}
use Rattle.std.specs.Prelude.{Ok, Err, IfOk, IfErr, OnOk}
use Rattle.std.specs.Result.{IsErr, IsErrAnd}
use Rattle.std.proofs.lemmas.Option.{none-some, same_Some}
use Rattle.arena_chunks.specs.Frame.{AreAllApart, Frame}
use Rattle.arena_chunks.specs.Memory.{Memory}
use Rattle.arena_chunks.specs.Source.{View}
use Rattle.arena_chunks.proofs.Layers.{frame_reflexive, frame_weaken, frame_beside, frame_behind, apart_both}
use Rattle.arena_store.specs.declared.block.Block.{Block}
use Rattle.arena_items.specs.Beside.{Moves}
use Rattle.arena_items.specs.Values.{bytes_of}
use Rattle.arena_items.specs.declared.item.Item.{Ghosts}
use Rattle.arena_items.specs.declared.room.AllocError.{AllocError}
use Rattle.arena_vec.specs.Vecs.{IsVecIn, vec_list}
use Rattle.arena_vec.specs.declared.vec.Vec.{Vec}
use Rattle.arena_vec.proofs.Layers.{length-elements}
use Rattle.arena_symbols.specs.Interning.{Interns}
use Rattle.arena_symbols.specs.Names.{IsInternerIn, names_footprint}
use Rattle.arena_symbols.specs.declared.symbols.Symbols.{Symbols}
use Rattle.arena_symbols.proofs.Layers.{all_turned}
use Rattle.arena_ast.specs.laws.AstLaws.{ast_kind}
use Rattle.arena_ast.specs.Asts.{AreOrdered, AreNodesIn, IsAstIn, ast_blocks}
use Rattle.arena_ast.specs.Rows.{rows_in, with_name, NameRefused}
use Rattle.arena_ast.specs.declared.ast.Ast.{Ast}

-- an item of a list to which one was appended
got : {T : Type 0} (xs : List T) (y : T) (i : ℕ) (x : T) → slice_get (xs ++ y ∷ []) i ≡ Some x
    → (slice_get xs i ≡ Some x) ⊎ ((i ≡ length xs) × (y ≡ x))
got [] y zero x e = inr (refl, same_Some y x e)
got [] y (suc i) x e = absurd (none-some x e)
got (z ∷ xs) y zero x e = inl e
got (z ∷ xs) y (suc i) x e = elim (got xs y i x e) [ inl before ↦ inl before | inr last ↦ inr (ap suc last.0, last.1) ]

module _ {T : Type 0} (item : Ghosts T) where
  pub list_length : (memory : Memory) (nodes : Vec T) → length (vec_list item memory nodes) ≡ nodes.raw.len
  list_length memory nodes = length-elements item.SIZE item.decoded nodes.raw.len (bytes_of memory nodes.raw.block)

  -- the rows, once a name has a number
  pub named_rows : (old new : View) (tree : Ast T) (after : Symbols) (name : List ℕ) (result : Result ℕ AllocError)
      → Interns old new tree.names after name result
      → vec_list item new.memory tree.nodes ≡ vec_list item old.memory tree.nodes
      → OnOk result (rows_in item new.memory (record { nodes = tree.nodes; names = after }) ≡ with_name (rows_in item old.memory tree) name)
  named_rows old new tree after name result interns same = grind (arith, nat_tests)

-- an interner's answer
pub name_interned : (old new : View) (names after : Symbols) (name : List ℕ) (result : Result ℕ AllocError)
    → Interns old new names after name result → IfOk result (λ n. Interns old new names after name (Ok n))
name_interned old new names after name (Ok n) interns = interns
name_interned old new names after name (Err e) interns = tt

-- an interner's refusal
pub name_refused : {T : Type 0} (old new : View) (tree : Ast T) (after : Symbols) (name : List ℕ) (result : Result ℕ AllocError)
    → Interns old new tree.names after name result → IfErr result (NameRefused old new tree name)
name_refused old new tree after name result interns = grind (arith, nat_tests)

-- An error comes out of `?` as it was, or as what a `From` makes of it.
pub error_kept : {X E : Type 0} (P : E → Type 0) (error : E) (result : Result X E)
    → IsErr result × IsErrAnd result (λ f. f ≡ error) → P error → IfErr result P
error_kept P error result is refused = grind (arith, nat_tests)

pub error_is : {X E : Type 0} (P : E → Type 0) (error : E) (result : Result X E)
    → IsErr result × IsErrAnd result (λ f. f ≡ error) → P error → IsErrAnd result P
error_is P error result is refused = grind (arith, nat_tests)

-- ---- Lists of nodes

more_ordered : {T : Type 0} (is_after : ℕ → T → Type 0) (nodes : List T) (node : T) → AreOrdered is_after nodes
    → is_after (length nodes) node → AreOrdered is_after (nodes ++ node ∷ [])
more_ordered is_after nodes node ordered after at n here = elim (got nodes node at n here) [
  | inl before ↦ ordered at n before
  | inr last ↦ subst (is_after at) last.1 (subst (λ (k : ℕ). is_after k node) (sym last.0) after)
]

-- a vector without values
pub no_nodes : {T : Type 0} (item : Ghosts T) (is_after : ℕ → T → Type 0) {memory : Memory} {nodes : Vec T}
    → IsVecIn item memory nodes → vec_list item memory nodes ≡ [] → AreNodesIn item is_after memory nodes
no_nodes item is_after held none = record {
  held = held;
  ordered = subst (AreOrdered is_after) (sym none) (λ at n here. absurd (none-some n here));
}

-- a node was appended
pub one_node : {T : Type 0} (item : Ghosts T) (is_after : ℕ → T → Type 0) {old new : Memory} {nodes more : Vec T} (node : T)
    → AreNodesIn item is_after old nodes → is_after nodes.raw.len node → IsVecIn item new more
    → vec_list item new more ≡ vec_list item old nodes ++ node ∷ [] → AreNodesIn item is_after new more
one_node item is_after {old = old} {nodes = nodes} node are after held is = record {
  held = held;
  ordered = subst (AreOrdered is_after) (sym is) (more_ordered is_after (vec_list item old nodes) node are.ordered
      (subst (λ (k : ℕ). is_after k node) (sym (list_length item old nodes)) after));
}

-- nothing changed
pub same_nodes : {T : Type 0} {item : Ghosts T} {is_after : ℕ → T → Type 0} {old new : Memory} {nodes after : Vec T}
    → after ≡ nodes → new ≡ old → AreNodesIn item is_after old nodes → AreNodesIn item is_after new after
same_nodes {item = item} {is_after = is_after} {old = x0} {after = x1} handle memory are = grind (arith, nat_tests)

-- ---- Calls

module _ {T : Type 0} {item : Ghosts T} {is_after : ℕ → T → Type 0} where
  -- A call on the nodes alone, which leaves the names.
  pub nodes_moved : (old new : Memory) (tree : Ast T) {nodes : Vec T} → AreNodesIn item is_after new nodes
      → Frame old new (tree.nodes.raw.block ∷ []) (nodes.raw.block ∷ []) → IsInternerIn new tree.names
      → names_footprint new tree.names ≡ names_footprint old tree.names
      → AreAllApart (names_footprint new tree.names) (nodes.raw.block ∷ [])
      → Moves (ast_kind item is_after) old new tree (record { nodes = nodes; names = tree.names })
  nodes_moved old new tree {nodes = nodes} are frame names same apart = record {
    held = record { nodes = are; names = names; apart = apart };
    frame = subst (λ (bs : List Block). Frame old new (ast_blocks old tree) (nodes.raw.block ∷ bs)) (sym same)
        (frame_beside old new (tree.nodes.raw.block ∷ []) (nodes.raw.block ∷ []) (names_footprint old tree.names) frame);
  }

  -- A call that interns a text leaves the nodes.
  pub names_moved : {old new : View} (tree : Ast T) {names : Symbols} {text : List ℕ} {result : Result ℕ AllocError}
      → IsAstIn item is_after old.memory tree → Interns old new tree.names names text result → IsVecIn item new.memory tree.nodes
      → vec_list item new.memory tree.nodes ≡ vec_list item old.memory tree.nodes
      → AreAllApart (tree.nodes.raw.block ∷ []) (names_footprint new.memory names)
      → Moves (ast_kind item is_after) old.memory new.memory tree (record { nodes = tree.nodes; names = names })
  names_moved {old = old} {new = new} tree {names = names} held interns nodes same apart = record {
    held = record {
      nodes = record { held = nodes; ordered = subst (AreOrdered is_after) (sym same) held.nodes.ordered };
      names = interns.held;
      apart = all_turned (tree.nodes.raw.block ∷ []) (names_footprint new.memory names) apart;
    };
    frame = frame_behind old.memory new.memory (names_footprint old.memory tree.names) (names_footprint new.memory names)
        (tree.nodes.raw.block ∷ []) interns.frame;
  }

-- n addresses as a block
abbrev range : ℕ → ℕ → Block
range addr n = record { generation = 0; addr = addr; size = n; align = 1 }

-- Blocks that are apart from all others, as empty ones are, may be among those after a call, and need none.
pub frame_with_none : (old new : Memory) (before after blocks : List Block) → ((others : List Block) → AreAllApart blocks others)
    → Frame old new before after → Frame old new before (after ++ blocks)
frame_with_none old new before after blocks apart =
    frame_weaken old new before before after (after ++ blocks) (λ addr n some is. is)
    (λ addr n some is rest. apart_both addr n after blocks rest
    (all_turned blocks (range addr n ∷ []) (apart (range addr n ∷ []))).0)

pub frame_of_none : (memory : Memory) (blocks : List Block) → ((others : List Block) → AreAllApart blocks others)
    → Frame memory memory [] blocks
frame_of_none memory blocks apart = frame_with_none memory memory [] [] blocks apart (frame_reflexive memory [])
