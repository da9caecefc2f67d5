use Rattle.std.proofs.Common.{◌∙◌, sym}
use Rattle.arena_vec.specs.Vecs.{vec_list}
use Rattle.arena_ast.specs.Forms.{word}
use Rattle.arena_ast.proofs.AstLemmas.{list_length}
use Rattle.arena_ast.proofs.RangeLemmas.{range_at}
use Rattle.arena_ast.proofs.lists.list_operands.Goals as goal

pub returns-clause-moves : goal.returns-clause-moves
returns-clause-moves g c =
    let grows = c.extend_from_slice.ensures in
    c.part_law.ensures.second c.args.a.now.memory c.extend_from_slice.new.a.memory c.args.tree.now.first c.args.tree.now.second
    c.extend_from_slice.new.self c.requires (record { held = grows.held; frame = grows.frame })

pub returns-clause-range : goal.returns-clause-range
returns-clause-range g c =
    let old = c.args.a.now.memory in
    let new = c.extend_from_slice.new.a.memory in
    let list = c.args.tree.now.second in
    range_at _ (vec_list word old list) c.args.operands.now c.len-from.result c.len-to.result c.in_ok-extend_from_slice.ensures.list_is
    (c.len-from.ensures ∙ sym (list_length word old list)) (c.len-to.ensures ∙ sym (list_length word new c.extend_from_slice.new.self))
