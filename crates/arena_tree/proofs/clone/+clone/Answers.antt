use Rattle.std.proofs.lemmas.Bool.Decides.{nat_tests}
use Rattle.std.proofs.Common.{rules, ◌≡◌, ◌∙◌, ap, sym, inl, inr, add-one, arith, suc, refl, None, [], ◌∷◌, length, drop}
use Rattle.arena_tree.specs.Subtrees.{has_kids, HasRow}
use Rattle.tree_nodes.proofs.WalkLemmas.{list_len}
use Rattle.tree_nodes.proofs.SpendingLemmas.{frees, err_spends, asks_any}
use Rattle.arena_tree.proofs.PartCostLemmas.{any_block}
use Rattle.tree_nodes.proofs.BlockCostLemmas.{spends_same}
use Rattle.tree_nodes.proofs.SubtreeLemmas.{kids_it, kids_at, row_length}
use Rattle.tree_nodes.proofs.RowLemmas.{rows_held, gathered_one, kid_of, kid_can, row_whole}
use Rattle.arena_tree.proofs.CloneLemmas.{more_kinds, number_copied, name_copied, let_copied, kids_copied, text_of, row_at, has_row}
use Rattle.arena_tree.proofs.CloneCostLemmas.{forget, row_room, row_kid, part_spends, both_spend}
use Rattle.arena_items.proofs.Layers.{still, ends_sooner}
use Rattle.arena_tree.specs.Cloning.{kids_asks, row_asks}
use Rattle.arena_tree.proofs.RunLemmas.{ran_nothing, ran_block, ran_then, one_ends}
use Rattle.arena_tree.proofs.CloneAskLemmas.{split_asks, number_asks, name_asks, let_asks, list_asks, list_ran, list_ends, ran_more, ran_is, err_asks, ends_behind}
use Rattle.arena_tree.proofs.clone.+clone.Goals as goal

-- ---- A number, a name

pub clone_node-returns-in-Num-clause-tree : goal.clone_node-returns-in-Num-clause-tree
clone_node-returns-in-Num-clause-tree g t c = λ tree at.
    number_copied _ _ _ _ tree at c.in-Num.is c.number.ensures.node

pub clone_node-clone_text-requires : goal.clone_node-clone_text-requires
clone_node-clone_text-requires g t c = (text_of _ _ c.requires.tree c.requires.stands (inl c.in-Name.is)).0

pub clone_node-returns-in_ok-name-in-Name-clause-tree : goal.clone_node-returns-in_ok-name-in-Name-clause-tree
clone_node-returns-in_ok-name-in-Name-clause-tree g t c = grind (arith, nat_tests, name_copied)

pub clone_node-returns-in_ok-name-in-Name-clause-spends : goal.clone_node-returns-in_ok-name-in-Name-clause-spends
clone_node-returns-in_ok-name-in-Name-clause-spends g t c = grind (arith, nat_tests, asks_any, part_spends, text_of)

pub clone_node-returns-in_err-name-in-Name-clause-spends : goal.clone_node-returns-in_err-name-in-Name-clause-spends
clone_node-returns-in_err-name-in-Name-clause-spends g t c = λ tree at.
    err_spends _ _ c.from_residual.ensures (any_block
    (part_spends tree (omega (arith, (text_of _ _ tree at (inl c.in-Name.is)).1)) c.in_err-name-in-Name.ensures.spends))

-- ---- A definition

pub clone_node-clone_text-requires-in-Let : goal.clone_node-clone_text-requires-in-Let
clone_node-clone_text-requires-in-Let g t c = (text_of _ _ c.requires.tree c.requires.stands (inr c.in-Let.is)).0

pub clone_node-kids-requires : goal.clone_node-kids-requires
clone_node-kids-requires g t c = (kids_at c.requires.tree _ _ c.requires.stands (ap has_kids c.in-Let.is)).held

pub clone_node-clone_row-requires : goal.clone_node-clone_row-requires
clone_node-clone_row-requires g t c κs within =
    let can : HasRow c.args.from.now.memory c.kids.result c.args.room
    = has_row _ _ _ (ap has_kids c.in-Let.is) c.kids.ensures c.requires.tree c.requires.stands c.args.room c.requires.low in
    search (rules, can)

pub clone_node-returns-in_ok-value-in-Let-clause-tree : goal.clone_node-returns-in_ok-value-in-Let-clause-tree
clone_node-returns-in_ok-value-in-Let-clause-tree g t c = grind (arith, nat_tests, row_at, let_copied, kids_it)

pub clone_node-returns-in_ok-value-in-Let-clause-spends : goal.clone_node-returns-in_ok-value-in-Let-clause-spends
clone_node-returns-in_ok-value-in-Let-clause-spends g t c = λ tree at.
    let text = c.in_ok-name-in-Let.ensures in
    asks_any (both_spend tree (text_of _ _ tree at (inr c.in-Let.is)).1 text.spends (frees text.frame)
    (c.in_ok-value-in-Let.ensures.spends (kids_it tree) (row_at _ _ _ (ap has_kids c.in-Let.is) c.kids.ensures tree at)))

pub clone_node-returns-in_err-name-in-Let-clause-spends : goal.clone_node-returns-in_err-name-in-Let-clause-spends
clone_node-returns-in_err-name-in-Let-clause-spends g t c = λ tree at.
    err_spends _ _ c.from_residual-in_err-name-in-Let.ensures (any_block
    (part_spends tree (omega (arith, (text_of _ _ tree at (inr c.in-Let.is)).1)) c.in_err-name-in-Let.ensures.spends))

pub clone_node-returns-in_err-value-in-Let-clause-spends : goal.clone_node-returns-in_err-value-in-Let-clause-spends
clone_node-returns-in_err-value-in-Let-clause-spends g t c = λ tree at.
    let text = c.in_ok-name-in-Let.ensures in
    err_spends _ _ c.from_residual-in_err-value-in-Let.ensures
    (both_spend tree (text_of _ _ tree at (inr c.in-Let.is)).1 text.spends (frees text.frame)
    (c.in_err-value-in-Let.ensures.spends (kids_it tree) (row_at _ _ _ (ap has_kids c.in-Let.is) c.kids.ensures tree at)))

-- ---- The other nodes

pub clone_node-kids-requires-in_default : goal.clone_node-kids-requires-in_default
clone_node-kids-requires-in_default g t c =
    (kids_at c.requires.tree _ _ c.requires.stands (more_kinds _ c.in_default.not-Num c.in_default.not-Name)).held

pub clone_node-clone_row-requires-in_default : goal.clone_node-clone_row-requires-in_default
clone_node-clone_row-requires-in_default g t c κs within =
    let can : HasRow c.args.from.now.memory c.kids-in_default.result c.args.room
    = has_row _ _ _ (more_kinds _ c.in_default.not-Num c.in_default.not-Name) c.kids-in_default.ensures c.requires.tree
    c.requires.stands c.args.room c.requires.low in
    search (rules, can)

pub clone_node-returns-in_ok-list-in_default : goal.clone_node-returns-in_ok-list-in_default
clone_node-returns-in_ok-list-in_default g t c =
    let d = c.in_default in
    let list = c.in_ok-list-in_default.ensures in
    let more = more_kinds c.args.node.kind d.not-Num d.not-Name in
    let named : c.with_kids.result.kind ≡ c.args.node.kind = cc in
    record {
      tree = λ tree at. kids_copied _ _ _ _ _ tree _ at d.not-Num d.not-Name d.not-Let
          (list.trees (kids_it tree) (row_at _ _ _ more c.kids-in_default.ensures tree at)) named c.with_kids.ensures.kids
          c.with_kids.ensures.rest;
      spends = λ tree at. asks_any
          (part_spends tree (omega arith) (list.spends (kids_it tree) (row_at _ _ _ more c.kids-in_default.ensures tree at)));
      asks = λ tree at. ran_is (list_asks _ _ tree at d.not-Num d.not-Name d.not-Let)
          (list.asks (kids_it tree) (row_at _ _ _ more c.kids-in_default.ensures tree at));
    }

pub clone_node-returns-in_err-list-in_default-clause-spends : goal.clone_node-returns-in_err-list-in_default-clause-spends
clone_node-returns-in_err-list-in_default-clause-spends g t c = λ tree at.
    let more = more_kinds c.args.node.kind c.in_default.not-Num c.in_default.not-Name in
    err_spends _ _ c.from_residual-in_err-list-in_default.ensures (part_spends tree (omega arith)
    (c.in_err-list-in_default.ensures.spends (kids_it tree) (row_at _ _ _ more c.kids-in_default.ensures tree at)))

-- ---- A list of nodes

pub clone_row-loop-i-init : goal.clone_row-loop-i-init
clone_row-loop-i-init g t c =
    let room = c.in_ok-list.ensures in
    record {
      within = omega arith;
      len = room.len;
      cap = room.cap ∙ c.len.ensures;
      built = λ ts at. room.row;
      spends = λ ts at. asks_any
          (row_room ts _ _ _ at (list_len c.args.from.now.memory c.args.nodes ∙ sym c.len.ensures) room.spends);
      asks = λ ts at.
          let many = row_length ts _ _ at ∙ list_len c.args.from.now.memory c.args.nodes ∙ sym c.len.ensures in
          list_ran _ (length ts) _ many room.asks;
    }

pub clone_row-clone_node-requires : goal.clone_row-clone_node-requires
clone_row-clone_node-requires g t c h within = grind (arith, nat_tests, kid_can, rules)

pub clone_row-fill-requires-clause-held : goal.clone_row-fill-requires-clause-held
clone_row-fill-requires-clause-held g t c =
    let h = c.requires in
    let k = kid_of h.trees _ _ c.loop-i.i _ h.stand c.get-node.ensures in
    rows_held _ (k.tree ∷ []) _ _ _ _ _ (c.loop-i.invariant.built h.trees h.stand) (gathered_one k.tree (c.in_ok-copy.ensures.tree k.tree k.stands))

pub clone_row-loop-i-preserved : goal.clone_row-loop-i-preserved
clone_row-loop-i-preserved g t c =
    let i = c.loop-i.invariant in
    let put = c.fill.ensures in
    record {
      within = omega (arith, c.loop-i-test.true, c.len-in-loop-i.ensures);
      len = omega (arith, put.len, i.len);
      cap = put.cap ∙ i.cap;
      built = λ ts at.
          let k = kid_of ts _ _ c.loop-i.i _ at c.get-node.ensures in
          rw (add-one, k.front) (put.row _ k.tree _ _ (i.built ts at) (c.in_ok-copy.ensures.tree k.tree k.stands));
      spends = λ ts at.
          let k = kid_of ts _ _ c.loop-i.i _ at c.get-node.ensures in
          rw add-one (asks_any (spends_same put.places (row_kid ts _ c.loop-i.i _ k (frees (i.built ts at).frame)
          (c.in_ok-copy.ensures.spends k.tree k.stands) (i.spends ts at))));
      asks = λ ts at.
          let k = kid_of ts _ _ c.loop-i.i _ at c.get-node.ensures in
          rw add-one (ran_more ts c.loop-i.i k.tree k.front (i.asks ts at) (c.in_ok-copy.ensures.asks k.tree k.stands) put.places);
    }

pub clone_row-returns-clause-trees : goal.clone_row-returns-clause-trees
clone_row-returns-clause-trees g t c = grind (arith, nat_tests, list_len, row_whole)

pub clone_row-returns-clause-spends : goal.clone_row-returns-clause-spends
clone_row-returns-clause-spends g t c = λ ts at. forget (c.loop-i.invariant.spends ts at)

pub clone_row-returns-in_err-list-clause-spends : goal.clone_row-returns-in_err-list-clause-spends
clone_row-returns-in_err-list-clause-spends g t c = λ ts at.
    let len = list_len c.args.from.now.memory c.args.nodes ∙ sym c.len.ensures in
    err_spends _ _ c.from_residual.ensures (any_block
    (forget (row_room ts _ _ _ at len c.in_err-list.ensures.spends)))

pub clone_row-returns-in_err-copy-clause-spends : goal.clone_row-returns-in_err-copy-clause-spends
clone_row-returns-in_err-copy-clause-spends g t c = λ ts at.
    let i = c.loop-i.invariant in
    let k = kid_of ts _ _ c.loop-i.i _ at c.get-node.ensures in
    err_spends _ _ c.from_residual-in_err-copy.ensures (forget (row_kid ts _ c.loop-i.i _ k (frees (i.built ts at).frame) (c.in_err-copy.ensures.spends k.tree k.stands) (i.spends ts at)))

-- ---- What is asked for

pub clone_node-returns-in-Num-clause-asks : goal.clone_node-returns-in-Num-clause-asks
clone_node-returns-in-Num-clause-asks g t c = λ tree at.
    ran_is (number_asks _ _ tree at c.in-Num.is) (ran_nothing (still c.args.to.now))

pub clone_node-returns-in_ok-name-in-Name-clause-asks : goal.clone_node-returns-in_ok-name-in-Name-clause-asks
clone_node-returns-in_ok-name-in-Name-clause-asks g t c = λ tree at.
    ran_is (name_asks _ _ tree at c.in-Name.is) (ran_block _ _ None _ _ _ c.in_ok-name-in-Name.ensures.asks)

pub clone_node-returns-in_err-name-in-Name-clause-asks : goal.clone_node-returns-in_err-name-in-Name-clause-asks
clone_node-returns-in_err-name-in-Name-clause-asks g t c = λ tree at.
    err_asks _ _ c.from_residual.ensures (name_asks _ _ tree at c.in-Name.is) (λ blocks. one_ends _ blocks c.in_err-name-in-Name.ensures.asks)

pub clone_node-returns-in_ok-value-in-Let-clause-asks : goal.clone_node-returns-in_ok-value-in-Let-clause-asks
clone_node-returns-in_ok-value-in-Let-clause-asks g t c = λ tree at.
    ran_is (let_asks _ _ tree at c.in-Let.is) (ran_then _ _ (ran_block _ _ None _ _ _ c.in_ok-name-in-Let.ensures.asks)
    (c.in_ok-value-in-Let.ensures.asks (kids_it tree) (row_at _ _ _ (ap has_kids c.in-Let.is) c.kids.ensures tree at)))

pub clone_node-returns-in_err-name-in-Let-clause-asks : goal.clone_node-returns-in_err-name-in-Let-clause-asks
clone_node-returns-in_err-name-in-Let-clause-asks g t c = λ tree at.
    err_asks _ _ c.from_residual-in_err-name-in-Let.ensures (let_asks _ _ tree at c.in-Let.is)
    (λ blocks. ends_sooner _ (row_asks (kids_it tree)) blocks _ _ _ (one_ends _ blocks c.in_err-name-in-Let.ensures.asks))

pub clone_node-returns-in_err-value-in-Let-clause-asks : goal.clone_node-returns-in_err-value-in-Let-clause-asks
clone_node-returns-in_err-value-in-Let-clause-asks g t c = λ tree at.
    err_asks _ _ c.from_residual-in_err-value-in-Let.ensures (let_asks _ _ tree at c.in-Let.is)
    (ends_behind _ _ (ran_block _ _ None _ _ _ c.in_ok-name-in-Let.ensures.asks)
    (c.in_err-value-in-Let.ensures.asks (kids_it tree) (row_at _ _ _ (ap has_kids c.in-Let.is) c.kids.ensures tree at)))

pub clone_node-returns-in_err-list-in_default-clause-asks : goal.clone_node-returns-in_err-list-in_default-clause-asks
clone_node-returns-in_err-list-in_default-clause-asks g t c = λ tree at.
    let d = c.in_default in
    let more = more_kinds c.args.node.kind d.not-Num d.not-Name in
    err_asks _ _ c.from_residual-in_err-list-in_default.ensures (list_asks _ _ tree at d.not-Num d.not-Name d.not-Let)
    (c.in_err-list-in_default.ensures.asks (kids_it tree) (row_at _ _ _ more c.kids-in_default.ensures tree at))

pub clone_row-returns-clause-asks : goal.clone_row-returns-clause-asks
clone_row-returns-clause-asks g t c = λ ts at.
    rw (row_whole ts _ _ c.loop-i.i at (omega (arith, c.loop-i-test.false, c.len-in-loop-i.ensures, list_len c.args.from.now.memory c.args.nodes)))
    at (c.loop-i.invariant.asks ts at)

pub clone_row-returns-in_err-list-clause-asks : goal.clone_row-returns-in_err-list-clause-asks
clone_row-returns-in_err-list-clause-asks g t c = λ ts at.
    let many = row_length ts _ _ at ∙ list_len c.args.from.now.memory c.args.nodes ∙ sym c.len.ensures in
    err_asks _ _ c.from_residual.ensures refl (λ blocks. ends_sooner _ (kids_asks ts) blocks _ _ _
    (list_ends (length ts) _ blocks many c.in_err-list.ensures.asks))

pub clone_row-returns-in_err-copy-clause-asks : goal.clone_row-returns-in_err-copy-clause-asks
clone_row-returns-in_err-copy-clause-asks g t c = λ ts at.
    let k = kid_of ts _ _ c.loop-i.i _ at c.get-node.ensures in
    err_asks _ _ c.from_residual-in_err-copy.ensures (split_asks ts c.loop-i.i k.tree k.front)
    (λ blocks. ends_sooner _ (kids_asks (drop (suc c.loop-i.i) ts)) blocks _ _ _
    (ends_behind _ _ (c.loop-i.invariant.asks ts at) (c.in_err-copy.ensures.asks k.tree k.stands) blocks))
