use Rattle.std.proofs.Common.{ap, [], ◌∷◌}
use Rattle.arena_store.specs.declared.block.Block.{Block}
use Rattle.arena_chunks.proofs.Layers.{apart_empty}
use Rattle.arena_symbols.proofs.Layers.{all_turned}
use Rattle.arena_ast.specs.Asts.{ast_blocks}
use Rattle.arena_ast.proofs.AstLemmas.{frame_with_none}
use Rattle.arena_ast.proofs.lists.new_listed.Goals as goal

pub returns-clause-fresh : goal.returns-clause-fresh
returns-clause-fresh g c memory =
    let tree = ast_blocks memory c.new_in.result in
    let block = c.new_in-2.result.raw.block in
    let is = c.new_in.ensures.fresh memory in
    let empty = ap (λ (b : Block). b.size) c.new_in-2.ensures.block in
    record {
      held = record {
        first = is.held;
        second = c.new_in-2.ensures.held memory;
        apart = all_turned (block ∷ []) tree (apart_empty block.addr block.size tree empty, tt);
      };
      frame = frame_with_none memory memory [] tree (block ∷ []) (λ others. (apart_empty block.addr block.size others empty, tt)) is.frame;
    }
