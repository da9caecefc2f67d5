-- Which nodes of an arena represent which tree, and the blocks that they name at every depth.
use Rattle.std.specs.Prelude.{◌≡◌, ℕ, zero, suc, List, [], ◌∷◌, ◌++◌}
use Rattle.std.specs.List.{AllByRecursion}
use Rattle.arena_chunks.specs.Memory.{Memory}
use Rattle.arena_chunks.specs.Frame.{Frame, ArePairwiseApart}
use Rattle.arena_store.specs.declared.block.Block.{Block}
use Rattle.arena_items.specs.declared.item.Item.{Ghosts}
use Rattle.arena_items.specs.Values.{IsTextIn, text_bytes}
use Rattle.arena_vec.specs.Held.{empty_block}
use Rattle.arena_vec.specs.Vecs.{IsVecIn, vec_list}
use Rattle.arena_vec.specs.declared.vec.Vec.{Vec}
use Rattle.tree_rules.specs.Trees.{Expr, Num, Name, Neg, Sum, Prod, Exprs, NoExprs, And}
use Rattle.tree_nodes.specs.declared.node.Kind.{Kind}
use Rattle.tree_nodes.specs.declared.node.Kind.TheVariants as kind
use Rattle.tree_nodes.specs.declared.node.Node.{Node}
use Rattle.tree_nodes.specs.NodeForms.{IsNodeValue, node_bytes, node_of, no_text}

abbrev pub node_item : Ghosts Node
node_item = record { is_value = IsNodeValue; encoded = node_bytes; decoded = node_of; SIZE = 88; ALIGN = 8 }

-- the list of a node's children
abbrev pub kids_of : Node → Vec Node
kids_of n = record { raw = record { block = n.kids; len = n.len; cap = n.cap; of = record {} } }

abbrev pub kids_in : Memory → Node → List Node
kids_in m n = vec_list node_item m (kids_of n)

-- ---- What the kind of a node doesn't use

-- the list of a node that has no children
abbrev pub no_kids : Vec Node
no_kids = record { raw = record { block = empty_block 8; len = 0; cap = 0; of = record {} } }

-- A node of this kind holds nothing that its kind doesn't use: its number is 0, and its text and its list of children
-- are empty.
abbrev pub IsLeanFor : Kind → Node → Type 0
IsLeanFor kind.Num n = (n.text ≡ no_text) × (kids_of n ≡ no_kids)
IsLeanFor kind.Name n = (n.number ≡ 0) × (kids_of n ≡ no_kids)
IsLeanFor kind.Let n = n.number ≡ 0
IsLeanFor k n = (n.number ≡ 0) × (n.text ≡ no_text)

abbrev pub IsLean : Node → Type 0
IsLean n = IsLeanFor n.kind n

-- So do all nodes of a list, and those below them down to a depth; and down to every depth.
abbrev pub AreLeanTo : ℕ → Memory → List Node → Type 0
AreLeanTo zero m ns = Unit {0}
AreLeanTo (suc depth) m ns = AllByRecursion (λ n. IsLean n × AreLeanTo depth m (kids_in m n)) ns

abbrev pub AreLean : Memory → List Node → Type 0
AreLean m ns = (depth : ℕ) → AreLeanTo depth m ns

-- ---- Trees

-- of the one node of a list
abbrev pub IsOnly : List Node → (Node → Type 0) → Type 0
IsOnly [] P = ⊥
IsOnly (k ∷ []) P = P k
IsOnly (k ∷ l ∷ ks) P = ⊥

abbrev pub of_first : List Node → (Node → List Block) → List Block
of_first [] f = []
of_first (k ∷ ks) f = f k

-- The node represents the expression: it has its kind, and its list of children, if it has one, is held and represents
-- its children.
abbrev mutual
  pub ExprAt : Expr → Memory → Node → Type 0
  ExprAt (Num k) m n = (n.kind ≡ kind.Num) × (n.number ≡ k)
  ExprAt (Name bytes) m n = (n.kind ≡ kind.Name) × IsTextIn m n.text × (text_bytes m n.text ≡ bytes)
  ExprAt (Neg e) m n = (n.kind ≡ kind.Neg) × IsVecIn node_item m (kids_of n) × IsOnly (kids_in m n) (λ k. ExprAt e m k)
  ExprAt (Sum kids) m n = (n.kind ≡ kind.Sum) × IsVecIn node_item m (kids_of n) × ExprsAt kids m (kids_in m n)
  ExprAt (Prod kids) m n = (n.kind ≡ kind.Prod) × IsVecIn node_item m (kids_of n) × ExprsAt kids m (kids_in m n)

  pub ExprsAt : Exprs → Memory → List Node → Type 0
  ExprsAt NoExprs m [] = Unit {0}
  ExprsAt NoExprs m (n ∷ ns) = ⊥
  ExprsAt (And e rest) m [] = ⊥
  ExprsAt (And e rest) m (n ∷ ns) = ExprAt e m n × ExprsAt rest m ns

-- ---- The blocks that it names at every depth

-- those of lists of nodes, those of texts, or both
pub data Which : Type 0 where
  OfLists : Which
  OfTexts : Which
  OfBoth : Which

abbrev pub with_list : Which → Block → List Block → List Block
with_list OfTexts b bs = bs
with_list w b bs = b ∷ bs

abbrev pub with_text : Which → Block → List Block → List Block
with_text OfLists b bs = bs
with_text w b bs = b ∷ bs

abbrev mutual
  pub expr_named : Which → Expr → Memory → Node → List Block
  expr_named w (Num k) m n = []
  expr_named w (Name bytes) m n = with_text w n.text.block []
  expr_named w (Neg e) m n = with_list w n.kids (of_first (kids_in m n) (λ k. expr_named w e m k))
  expr_named w (Sum kids) m n = with_list w n.kids (exprs_named w kids m (kids_in m n))
  expr_named w (Prod kids) m n = with_list w n.kids (exprs_named w kids m (kids_in m n))

  pub exprs_named : Which → Exprs → Memory → List Node → List Block
  exprs_named w NoExprs m ns = []
  exprs_named w (And e rest) m [] = []
  exprs_named w (And e rest) m (n ∷ ns) = expr_named w e m n ++ exprs_named w rest m ns

abbrev pub expr_blocks : Expr → Memory → Node → List Block
expr_blocks e m n = expr_named OfBoth e m n

abbrev pub exprs_blocks : Exprs → Memory → List Node → List Block
exprs_blocks es m ns = exprs_named OfBoth es m ns

-- A call places a new tree: the node represents the expression, on blocks that were free and are apart from each other,
-- and no node holds what its kind doesn't use.
pub record IsPlaced (e : Expr) (old new : Memory) (n : Node) : Type 0 where
  pub stands : ExprAt e new n
  pub apart : ArePairwiseApart (expr_blocks e new n)
  pub frame : Frame old new [] (expr_blocks e new n)
  pub lean : AreLean new (n ∷ [])

-- a list of nodes that is being built, in an arena that was this one before
pub record IsBuilt (es : Exprs) (old new : Memory) (list : Vec Node) : Type 0 where
  pub held : IsVecIn node_item new list
  pub stand : ExprsAt es new (vec_list node_item new list)
  pub apart : ArePairwiseApart (list.raw.block ∷ exprs_blocks es new (vec_list node_item new list))
  pub frame : Frame old new [] (list.raw.block ∷ exprs_blocks es new (vec_list node_item new list))
  pub lean : AreLean new (vec_list node_item new list)
