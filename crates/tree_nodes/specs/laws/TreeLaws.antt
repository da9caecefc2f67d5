-- The blocks of a tree determine it.
use Rattle.std.proofs.Common.{◌≡◌, ◌*◌, ap, sym, refl, subst, ◌∙◌, List, [], ◌∷◌, ◌++◌, IsTrue}
use Rattle.std.specs.List.{AllByRecursion}
use Rattle.arena_chunks.specs.Memory.{Memory, is_readable}
use Rattle.arena_store.specs.declared.block.Block.{Block}
use Rattle.arena_items.specs.Footprint.{AreReadable, Agree}
use Rattle.arena_items.specs.laws.FootprintLaws.{held_again}
use Rattle.arena_items.specs.Values.{bytes_of, elements}
use Rattle.arena_kinds.specs.laws.KindLaws.{readable_both, readable_each, agree_each}
use Rattle.arena_vec.specs.Vecs.{IsVecIn, vec_list}
use Rattle.arena_vec.specs.declared.vec.Vec.{Vec}
use Rattle.tree_rules.specs.Trees.{Expr, Num, Name, Neg, Sum, Prod, Exprs, NoExprs, And}
use Rattle.tree_nodes.specs.declared.node.Node.{Node}
use Rattle.tree_nodes.specs.TreesAt.{node_item, kids_of, kids_in, IsOnly, of_first, ExprAt, ExprsAt, Which, OfBoth, with_list, expr_named, exprs_named, expr_blocks, exprs_blocks}

-- ---- One list of nodes

pub list_same : (a c : Memory) (v : Vec Node) → bytes_of a v.raw.block ≡ bytes_of c v.raw.block
    → vec_list node_item c v ≡ vec_list node_item a v
list_same a c v same = ap (elements 88 node_item.decoded v.raw.len) (sym same)

pub list_held : (a c : Memory) (v : Vec Node) → IsVecIn node_item a v → IsTrue (is_readable c.state v.raw.block) → IsVecIn node_item c v
list_held a c v held readable = record {
  place = held_again (v.raw.cap * 88) 8 a.state c.state v.raw.block held.place readable;
  within = held.within;
  no_bytes = held.no_bytes;
}

-- ---- A tree that is represented may be read

mutual
  pub expr_readable : (e : Expr) (m : Memory) (n : Node) → ExprAt e m n → AreReadable m.state (expr_blocks e m n)
  expr_readable (Num k) m n at = tt
  expr_readable (Name bytes) m n at = (at.1, tt)
  expr_readable (Neg e) m n at = (at.1.place.readable, only (kids_in m n) (expr_readable e m) at.2)
    where
      only : (ns : List Node) → ((k : Node) → ExprAt e m k → AreReadable m.state (expr_blocks e m k))
          → IsOnly ns (λ k. ExprAt e m k) → AreReadable m.state (of_first ns (λ k. expr_blocks e m k))
      only [] each at = tt
      only (k ∷ []) each at = each k at
      only (k ∷ l ∷ ks) each at = absurd at
  expr_readable (Sum kids) m n at = (at.1.place.readable, exprs_readable kids m (kids_in m n) at.2)
  expr_readable (Prod kids) m n at = (at.1.place.readable, exprs_readable kids m (kids_in m n) at.2)

  pub exprs_readable : (es : Exprs) (m : Memory) (ns : List Node) → ExprsAt es m ns → AreReadable m.state (exprs_blocks es m ns)
  exprs_readable NoExprs m [] at = tt
  exprs_readable NoExprs m (n ∷ ns) at = absurd at
  exprs_readable (And e rest) m [] at = absurd at
  exprs_readable (And e rest) m (n ∷ ns) at =
      readable_both m (expr_blocks e m n) (exprs_blocks rest m ns) (expr_readable e m n at.0) (exprs_readable rest m ns at.1)

-- ---- The same bytes in its blocks: the same blocks

pub first_agree : (a c : Memory) (ns : List Node) (f g h : Node → List Block) → ((k : Node) → Agree a c (f k) → h k ≡ g k)
    → Agree a c (of_first ns f) → of_first ns h ≡ of_first ns g
first_agree a c [] f g h same agree = refl
first_agree a c (k ∷ ks) f g h same agree = same k agree

mutual
  pub expr_same : (w : Which) (e : Expr) (a c : Memory) (n : Node) → Agree a c (expr_blocks e a n) → expr_named w e c n ≡ expr_named w e a n
  expr_same w (Num k) a c n agree = refl
  expr_same w (Name bytes) a c n agree = refl
  expr_same w (Neg e) a c n agree =
      ap (λ ns. with_list w n.kids (of_first ns (λ k. expr_named w e c k))) (list_same a c (kids_of n) agree.0)
      ∙ ap (with_list w n.kids) (first_agree a c (kids_in a n) (λ k. expr_blocks e a k) (λ k. expr_named w e a k)
      (λ k. expr_named w e c k) (λ k same. expr_same w e a c k same) agree.1)
  expr_same w (Sum kids) a c n agree =
      ap (λ ns. with_list w n.kids (exprs_named w kids c ns)) (list_same a c (kids_of n) agree.0)
      ∙ ap (with_list w n.kids) (exprs_same w kids a c (kids_in a n) agree.1)
  expr_same w (Prod kids) a c n agree =
      ap (λ ns. with_list w n.kids (exprs_named w kids c ns)) (list_same a c (kids_of n) agree.0)
      ∙ ap (with_list w n.kids) (exprs_same w kids a c (kids_in a n) agree.1)

  pub exprs_same : (w : Which) (es : Exprs) (a c : Memory) (ns : List Node) → Agree a c (exprs_blocks es a ns)
      → exprs_named w es c ns ≡ exprs_named w es a ns
  exprs_same w NoExprs a c ns agree = refl
  exprs_same w (And e rest) a c [] agree = refl
  exprs_same w (And e rest) a c (n ∷ ns) agree =
      let each = agree_each a c (expr_blocks e a n) (exprs_blocks rest a ns) agree in
      λ i. expr_same w e a c n each.0 i ++ exprs_same w rest a c ns each.1 i

pub expr_names : (e : Expr) (a c : Memory) (n : Node) → Agree a c (expr_blocks e a n) → expr_blocks e c n ≡ expr_blocks e a n
expr_names = expr_same OfBoth

-- ---- And it represents the same tree

pub only_again : (a c : Memory) (ns : List Node) (e : Expr)
    → ((k : Node) → ExprAt e a k → Agree a c (expr_blocks e a k) → AreReadable c.state (expr_blocks e a k) → ExprAt e c k)
    → IsOnly ns (λ k. ExprAt e a k) → Agree a c (of_first ns (λ k. expr_blocks e a k)) → AreReadable c.state (of_first ns (λ k.
    expr_blocks e a k))
    → IsOnly ns (λ k. ExprAt e c k)
only_again a c [] e each at agree readable = at
only_again a c (k ∷ []) e each at agree readable = each k at agree readable
only_again a c (k ∷ l ∷ ks) e each at agree readable = at

mutual
  pub expr_again : (e : Expr) (a c : Memory) (n : Node) → ExprAt e a n → Agree a c (expr_blocks e a n)
      → AreReadable c.state (expr_blocks e a n)
      → ExprAt e c n
  expr_again (Num k) a c n at agree readable = at
  expr_again (Name bytes) a c n at agree readable = (at.0, readable.0, sym agree.0 ∙ at.2)
  expr_again (Neg e) a c n at agree readable = (
    at.0,
    list_held a c (kids_of n) at.1 readable.0,
    subst (λ ns. IsOnly ns (λ k. ExprAt e c k)) (sym (list_same a c (kids_of n) agree.0))
        (only_again a c (kids_in a n) e (λ k is same reads. expr_again e a c k is same reads) at.2 agree.1 readable.1),
  )
  expr_again (Sum kids) a c n at agree readable = (
    at.0,
    list_held a c (kids_of n) at.1 readable.0,
    subst (ExprsAt kids c) (sym (list_same a c (kids_of n) agree.0)) (exprs_again kids a c (kids_in a n) at.2 agree.1 readable.1),
  )
  expr_again (Prod kids) a c n at agree readable = (
    at.0,
    list_held a c (kids_of n) at.1 readable.0,
    subst (ExprsAt kids c) (sym (list_same a c (kids_of n) agree.0)) (exprs_again kids a c (kids_in a n) at.2 agree.1 readable.1),
  )

  pub exprs_again : (es : Exprs) (a c : Memory) (ns : List Node) → ExprsAt es a ns → Agree a c (exprs_blocks es a ns)
      → AreReadable c.state (exprs_blocks es a ns) → ExprsAt es c ns
  exprs_again NoExprs a c [] at agree readable = tt
  exprs_again NoExprs a c (n ∷ ns) at agree readable = absurd at
  exprs_again (And e rest) a c [] at agree readable = absurd at
  exprs_again (And e rest) a c (n ∷ ns) at agree readable =
      let each = agree_each a c (expr_blocks e a n) (exprs_blocks rest a ns) agree in
      let reads = readable_each c (expr_blocks e a n) (exprs_blocks rest a ns) readable in
      (expr_again e a c n at.0 each.0 reads.0, exprs_again rest a c ns at.1 each.1 reads.1)
