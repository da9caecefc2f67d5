-- What becomes of whole trees during calls on other blocks.
use Rattle.std.proofs.Common.{◌≡◌, sym, ap, subst, ◌∙◌, List, [], ◌∷◌}
use Rattle.arena_chunks.specs.Memory.{Memory}
use Rattle.arena_chunks.specs.Checkpoints.{GoesBack}
use Rattle.arena_chunks.specs.Frame.{Frame, AreAllApart}
use Rattle.arena_store.specs.declared.block.Block.{Block}
use Rattle.arena_chunks.proofs.Layers.{went_back, all_from_none, all_among, all_each}
use Rattle.arena_items.specs.Footprint.{AreReadable, Agree}
use Rattle.arena_vec.specs.Vecs.{vec_list}
use Rattle.tree_rules.specs.Trees.{Stmts}
use Rattle.arena_tree.specs.TreesAt.{node_item, Which, OfLists, OfTexts, OfBoth}
use Rattle.arena_tree.specs.TreeLaws.{list_same, list_held}
use Rattle.arena_tree.specs.StmtsAt.{StmtsAt, stmts_named}
use Rattle.arena_tree.specs.StmtLaws.{stmts_readable, stmts_same, stmts_again}
use Rattle.arena_tree.specs.Given.{IsTreeIn, Means}
use Rattle.arena_tree.specs.Folding.{lists_of, footprint}
use Rattle.arena_tree.specs.Staying.{StaysTree}
use Rattle.arena_tree.specs.declared.tree.Tree.{Tree}
use Rattle.tree_nodes.proofs.OneTreeLemmas.{one_stmts}
use Rattle.tree_nodes.proofs.PartsLemmas.{First, parts_apart, stmts_parts}
use Rattle.tree_nodes.proofs.StayLemmas.{stay_all}

pub tree_readable : (m : Memory) (t : Tree) (ss : Stmts) → IsTreeIn m t → Means m t ss → AreReadable m.state (footprint ss m t)
tree_readable m t ss h means = (h.held.place.readable, stmts_readable ss m (vec_list node_item m t.stmts) means)

-- A tree in two arenas that agree on its blocks.
tree_again : (a c : Memory) (after : List Block) (t : Tree) (h : IsTreeIn a t) → Agree a c (footprint h.trees a t)
    → AreReadable c.state (footprint h.trees a t) → AreAllApart (footprint h.trees a t) after → StaysTree h.trees a c after t
tree_again a c after t h agree readable apart =
    let ss = h.trees in
    let ns = vec_list node_item a t.stmts in
    let list = list_same a c t.stmts agree.0 in
    let same : (w : Which) → stmts_named w ss c (vec_list node_item c t.stmts) ≡ stmts_named w ss a ns
    = λ w. ap (stmts_named w ss c) list ∙ stmts_same w ss a c ns agree.1 in
    let means = subst (StmtsAt ss c) (sym list) (stmts_again ss a c ns h.means agree.1 readable.1) in
    record {
      held = record {
        trees = ss;
        plain = h.plain;
        held = list_held a c t.stmts h.held readable.0;
        means = means;
        lists = rw (same OfLists) h.lists;
        texts = rw (same OfLists, same OfTexts) h.texts;
      };
      means = means;
      blocks = ap (λ bs. t.stmts.raw.block ∷ bs) (same OfBoth);
      lists = ap (λ bs. t.stmts.raw.block ∷ bs) (same OfLists);
      apart = rw (same OfBoth) apart;
    }

-- What holds of the statements that a tree is given with holds of those that it means.
of_meant : {m : Memory} {t : Tree} {ss : Stmts} (P : Stmts → Type 0) (h : IsTreeIn m t) → Means m t ss → P h.trees → P ss
of_meant {m} {t} {ss} P h means is = subst P (one_stmts h.trees ss m (vec_list node_item m t.stmts) h.means means) is

pub tree_stays : (old new : Memory) (before after : List Block) (t : Tree) (ss : Stmts) → Frame old new before after → IsTreeIn old t
    → Means old t ss → AreAllApart (footprint ss old t) before → StaysTree ss old new after t
tree_stays old new before after t ss frame h means =
    of_meant (λ ts. AreAllApart (footprint ts old t) before → StaysTree ts old new after t) h means (λ apart.
    let stay = stay_all old new before after (footprint h.trees old t) frame (tree_readable old t h.trees h h.means) apart in
    tree_again old new after t h stay.agree stay.readable stay.apart)

pub tree_beside : (old new : Memory) (after : List Block) (t : Tree) (ss : Stmts) → Frame old new [] after → IsTreeIn old t
    → Means old t ss → StaysTree ss old new after t
tree_beside old new after t ss frame h means = tree_stays old new [] after t ss frame h means (all_from_none (footprint ss old t))

pub tree_back : (old new : Memory) (t : Tree) (ss : Stmts) → GoesBack old new → IsTreeIn old t → Means old t ss
    → AreReadable new.state (footprint ss old t) → StaysTree ss old new [] t
tree_back old new t ss back h means =
    of_meant (λ ts. AreReadable new.state (footprint ts old t) → StaysTree ts old new [] t) h means (λ readable.
    tree_again old new [] t h (agree (footprint h.trees old t) readable) readable (all_from_none (footprint h.trees old t)))
  where
    agree : (bs : List Block) → AreReadable new.state bs → Agree old new bs
    agree [] readable = tt
    agree (b ∷ bs) readable = (sym (went_back old new b back readable.0), agree bs readable.1)

-- What is apart from its blocks is apart from its lists of nodes.
pub lists_apart : (m : Memory) (t : Tree) (ss : Stmts) (others : List Block) → AreAllApart others (footprint ss m t)
    → AreAllApart others (lists_of ss m t)
lists_apart m t ss others apart =
    let parts = First t.stmts.raw.block _ _ _ (stmts_parts ss m (vec_list node_item m t.stmts)) in
    all_each others (lists_of ss m t) (λ b among.
    (parts_apart b.addr b.size _ _ _ parts (all_among others (footprint ss m t) b apart among)).0)
