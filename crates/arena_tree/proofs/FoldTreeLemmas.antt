-- A whole tree is folded.
use Rattle.std.proofs.lemmas.Bool.Decides.{nat_tests}
use Rattle.std.proofs.Common.{ℕ, ◌+◌, ◌/◌, ◌≡◌, [], subst, sym, refl, ◌∙◌, arith}
use Rattle.arena_chunks.specs.Memory.{Memory}
use Rattle.arena_chunks.specs.Source.{View}
use Rattle.arena_chunks.proofs.Layers.{frame_weaken}
use Rattle.arena_kinds.proofs.Layers.{all_turned}
use Rattle.arena_rules.specs.State.{used_bytes}
use Rattle.arena_items.specs.Room.{SamePlaces}
use Rattle.arena_vec.specs.Vecs.{vec_list}
use Rattle.tree_rules.specs.Trees.{Stmts, AreStmts, folded_stmts, folds_of_stmts}
use Rattle.arena_tree.specs.TreesAt.{node_item}
use Rattle.arena_tree.specs.Lists.{stmts_texts}
use Rattle.arena_tree.specs.Given.{IsTreeIn, Means}
use Rattle.arena_tree.specs.Folding.{lists_of, footprint, Folds}
use Rattle.arena_tree.specs.Subtrees.{stmt_row, HasRow}
use Rattle.arena_tree.specs.FoldingParts.{IsRowWhole, CanFoldRow, StandOn, Shrinks, WritesIn, FoldsRow}
use Rattle.arena_tree.specs.declared.tree.Tree.{Tree}
use Rattle.arena_tree.proofs.GivenLemmas.{given_low}
use Rattle.tree_nodes.proofs.PartsLemmas.{Parts, First, parts_apart, stmts_parts}
use Rattle.arena_tree.proofs.FoldBlockLemmas.{shrinks_own, texts_within}
use Rattle.arena_tree.proofs.FoldRowLemmas.{held_still}
use Rattle.tree_nodes.proofs.OneTreeLemmas.{one_stmts}
use Rattle.tree_nodes.proofs.SubtreeLemmas.{stmt_row_at, row_stmts_at, stmt_row_blocks}
use Rattle.arena_tree.proofs.KeptLemmas.{apart_from_both}
use Rattle.arena_tree.proofs.KidsLemmas.{stmt_row_is}

given_whole : (m : Memory) (t : Tree) (h : IsTreeIn m t) → IsRowWhole (stmt_row h.trees) m t.stmts
given_whole m t h = grind (arith, nat_tests, stmt_row_blocks, stmt_row_at, all_turned)

pub can_fold : (m : Memory) (t : Tree) → IsTreeIn m t → CanFoldRow m t.stmts (used_bytes m.state / 88 + 1)
can_fold m t h = record {
  trees = stmt_row h.trees;
  held = h.held;
  whole = given_whole m t h;
  low = omega (arith, given_low m t h, (stmt_row_is h.trees).0);
}

pub given_row : (m : Memory) (t : Tree) → IsTreeIn m t → HasRow m t.stmts (used_bytes m.state / 88 + 1)
given_row m t h =
    let r = can_fold m t h in
    record { trees = r.trees; held = r.held; stand = r.whole.stand; low = r.low }

-- What a fold of the list of statements says of the tree.
record Done (ss : Stmts) (old new : Memory) (t : Tree) (count : ℕ) : Type 0 where
  pub means : Means new t (folded_stmts ss)
  pub count_is : count ≡ folds_of_stmts ss
  pub shrinks : Shrinks (lists_of ss old t) (stmts_texts ss old (vec_list node_item old t.stmts)) (lists_of (folded_stmts ss) new t)
      (stmts_texts (folded_stmts ss) new (vec_list node_item new t.stmts))
  pub writes : WritesIn old new (lists_of ss old t)

done : {old new : Memory} {t : Tree} {count : ℕ} (h : IsTreeIn old t) → FoldsRow old new t.stmts count → Done h.trees old new t count
done {old} {new} {t} h fold =
    let ss = h.trees in
    let ns = vec_list node_item new t.stmts in
    let f = fold.each (stmt_row ss) (given_whole old t h) in
    let is = stmt_row_is ss in
    let before = stmt_row_blocks ss old (vec_list node_item old t.stmts) in
    let after = stmt_row_blocks (folded_stmts ss) new ns in
    let on : StandOn (stmt_row (folded_stmts ss)) new ns f.lists f.texts = rw is.2 f.on in
    record {
      means = row_stmts_at (folded_stmts ss) new ns on.stand;
      count_is = f.count_is ∙ sym is.1;
      shrinks = rw (before.0, before.1, after.0, after.1, on.lists, on.texts) (shrinks_own t.stmts.raw.block [] f.shrinks);
      writes = rw before.0 f.writes;
    }

tree_parts : (ss : Stmts) (m : Memory) (t : Tree)
    → Parts (footprint ss m t) (lists_of ss m t) (stmts_texts ss m (vec_list node_item m t.stmts))
tree_parts ss m t = First t.stmts.raw.block _ _ _ (stmts_parts ss m (vec_list node_item m t.stmts))

pub tree_folds : {old new : View} {t : Tree} {count : ℕ} (ss : Stmts) → IsTreeIn old.memory t → Means old.memory t ss
    → FoldsRow old.memory new.memory t.stmts count → SamePlaces old new → Folds ss old new t t count
tree_folds {old} {new} {t} {count} ss h means fold places =
    let one = one_stmts h.trees ss old.memory (vec_list node_item old.memory t.stmts) h.means means in
    let f = subst (λ ts. Done ts old.memory new.memory t count) one (done h fold) in
    record {
      handle = refl;
      means = f.means;
      count_is = f.count_is;
      places = places;
      frame = frame_weaken old.memory new.memory _ _ (lists_of ss old.memory t) (lists_of (folded_stmts ss) new.memory t)
          (λ addr n some apart. apart) (λ addr n some apart rest. f.shrinks.lists_in addr n apart) f.writes.frame;
      within = λ addr n apart.
          let each = parts_apart addr n _ _ _ (tree_parts ss old.memory t) apart in
          apart_from_both addr n _ _ _ (tree_parts (folded_stmts ss) new.memory t) (f.shrinks.lists_in addr n each.0)
          (f.shrinks.texts_in addr n each.1);
    }

pub tree_stands : {old new : Memory} {t : Tree} {count : ℕ} → ((ss : Stmts) → AreStmts ss → AreStmts (folded_stmts ss)) → IsTreeIn old t
    → FoldsRow old new t.stmts count → IsTreeIn new t
tree_stands {old} {new} {t} keeps h fold =
    let f = done h fold in
    record {
      trees = folded_stmts h.trees;
      plain = keeps h.trees h.plain;
      held = held_still old new t.stmts f.writes.state h.held;
      means = f.means;
      lists = f.shrinks.pairs h.lists;
      texts = texts_within f.shrinks h.texts;
    }
