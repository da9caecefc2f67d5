use Rattle.std.proofs.lemmas.Bool.Decides.{nat_tests}
use Rattle.std.proofs.Common.{◌-◌, arith}
use Rattle.arena_vec.specs.Vecs.{vec_list}
use Rattle.arena_tree.specs.TreesAt.{node_item}
use Rattle.tree_nodes.proofs.WalkLemmas.{list_len}
use Rattle.arena_tree.proofs.TotalLemmas.{tail_begins, tail_more, tail_whole, no_total}
use Rattle.arena_tree.proofs.fold.total.Goals as goal

pub loop-i-init : goal.loop-i-init
loop-i-init g c = grind (arith, nat_tests, list_len, tail_begins)

pub loop-i-preserved : goal.loop-i-preserved
loop-i-preserved g c = grind (arith, nat_tests, tail_more)

pub returns-in_default : goal.returns-in_default
returns-in_default g c =
    no_total c.args.product (vec_list node_item c.args.a.now.memory c.args.list) (c.loop-i.i - 1) c.get-kid.result c.get-kid.ensures
    c.in_default.not-Num

pub returns : goal.returns
returns g c = grind (arith, nat_tests, tail_whole)
