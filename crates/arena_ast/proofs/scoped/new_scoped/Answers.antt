use Rattle.std.proofs.Common.{[]}
use Rattle.arena_symbols.specs.Tables.{table_blocks}
use Rattle.arena_symbols.proofs.Layers.{all_turned}
use Rattle.arena_ast.specs.Asts.{ast_blocks}
use Rattle.arena_ast.proofs.AstLemmas.{frame_with_none}
use Rattle.arena_ast.proofs.scoped.new_scoped.Goals as goal

pub returns-clause-fresh : goal.returns-clause-fresh
returns-clause-fresh g c memory =
    let tree = ast_blocks memory c.new_in.result in
    let table = table_blocks c.new_in-2.result in
    let is = c.new_in.ensures.fresh memory in
    let scopes = c.new_in-2.ensures in
    record {
      held = record { first = is.held; second = scopes.held memory; apart = all_turned table tree (scopes.apart tree) };
      frame = frame_with_none memory memory [] tree table scopes.apart is.frame;
    }
