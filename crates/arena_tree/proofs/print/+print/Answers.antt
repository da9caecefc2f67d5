use Rattle.std.proofs.lemmas.Bool.Decides.{nat_tests}
use Rattle.std.proofs.Common.{rules, ◌∙◌, refl, inl, inr, append-nil, arith}
use Rattle.std.proofs.lemmas.List.{drop_all}
use Rattle.std.proofs.lemmas.Grind.{common_steps}
use Rattle.arena_vec.specs.Vecs.{vec_list}
use Rattle.tree_nodes.specs.declared.node.Kind.TheVariants as kind
use Rattle.arena_tree.specs.TreesAt.{node_item}
use Rattle.arena_tree.specs.Printing.{stand_of}
use Rattle.tree_nodes.proofs.WalkLemmas.{list_len}
use Rattle.tree_nodes.proofs.SubtreeLemmas.{kids_it, kids_at, row_length}
use Rattle.tree_nodes.proofs.RowLemmas.{kid_of, kid_can}
use Rattle.arena_tree.proofs.CloneLemmas.{more_kinds, text_of, row_at, has_row}
use Rattle.arena_tree.proofs.PrintLemmas.{text_is, inner_kind, taken_kids, taken_piece, plain_piece, row_more}
use Rattle.arena_tree.proofs.print.+print.Goals as goal

-- ---- A number, a name

pub put_node-returns-in-Num : goal.put_node-returns-in-Num
put_node-returns-in-Num g t c = λ tree at.
    rw (text_is c.args.a.now.memory c.args.node (stand_of c.args.stand) tree at kind.Num c.in-Num.is) c.put_number.ensures

pub put_node-read-requires : goal.put_node-read-requires
put_node-read-requires g t c = (text_of c.args.a.now.memory c.args.node c.requires.tree c.requires.stands (inl c.in-Name.is)).0

pub put_node-returns-in-Name : goal.put_node-returns-in-Name
put_node-returns-in-Name g t c = λ tree at.
    rw (text_is c.args.a.now.memory c.args.node (stand_of c.args.stand) tree at kind.Name c.in-Name.is, ← c.read.ensures) c.put.ensures

-- ---- The other nodes

pub put_node-put_before-requires : goal.put_node-put_before-requires
put_node-put_before-requires g t c = λ is. (text_of c.args.a.now.memory c.args.node c.requires.tree c.requires.stands (inr is)).0

pub put_node-put_kids-requires : goal.put_node-put_kids-requires
put_node-put_kids-requires g t c h within = grind (arith, nat_tests, more_kinds, rules)

pub put_node-returns-in_ok-put_kids-in_default : goal.put_node-returns-in_ok-put_kids-in_default
put_node-returns-in_ok-put_kids-in_default g t c = λ tree at.
    let m = c.args.a.now.memory in
    let s = stand_of c.args.stand in
    let d = c.in_default in
    let text = text_is m c.args.node s tree at c.args.node.kind refl ∙ inner_kind m c.args.node s c.args.node.kind _ d.not-Num d.not-Name in
    let put = rw c.kids_stand.ensures at (c.in_ok-put_kids-in_default.ensures tree at) in
    rw text (grind (arith, common_steps, put))

-- ---- The children of a node

pub put_kids-kids-requires : goal.put_kids-kids-requires
put_kids-kids-requires g t c =
    (kids_at c.requires.node.tree c.args.a.now.memory c.args.node c.requires.node.stands c.requires.kids).held

pub put_kids-put_row-requires : goal.put_kids-put_row-requires
put_kids-put_row-requires g t c h within = grind (arith, nat_tests, has_row, rules)

pub put_kids-returns : goal.put_kids-returns
put_kids-returns g t c = λ tree at.
    c.put_row.ensures (kids_it tree)
    (row_at c.args.a.now.memory c.args.node c.kids.result c.requires.kids c.kids.ensures tree at)

-- ---- A node of a list

pub put_kid-put_kids-requires : goal.put_kid-put_kids-requires
put_kid-put_kids-requires g t c h within = grind (arith, nat_tests, taken_kids, rules)

pub put_kid-returns-then-is_taken : goal.put_kid-returns-then-is_taken
put_kid-returns-then-is_taken g t c = grind (arith, nat_tests, taken_piece, common_steps)

pub put_kid-returns : goal.put_kid-returns
put_kid-returns g t c = grind (arith, nat_tests, plain_piece, common_steps)

-- ---- A list

pub put_row-put_kid-requires : goal.put_row-put_kid-requires
put_row-put_kid-requires g t c h within = grind (arith, nat_tests, kid_can, rules)

pub put_row-loop-i-preserved : goal.put_row-loop-i-preserved
put_row-loop-i-preserved g t c =
    let m = c.args.a.now.memory in
    record {
      within = omega (arith, c.loop-i-test.true, c.len.ensures);
      text = λ ts at.
          let k = kid_of ts m (vec_list node_item m c.args.list) c.loop-i.i c.get-kid.result at c.get-kid.ensures in
          row_more (stand_of c.args.stand) c.loop-i.i k.tree ts _ _ _ k.rest (c.in_ok-put_kid.ensures k.tree k.stands)
          (c.loop-i.invariant.text ts at);
    }

pub put_row-returns : goal.put_row-returns
put_row-returns g t c = grind (arith, nat_tests, row_length, list_len, append-nil, drop_all)
