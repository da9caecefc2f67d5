use Rattle.std.proofs.Common.{ap, [], ◌∷◌}
use Rattle.arena_store.specs.declared.block.Block.{Block}
use Rattle.arena_chunks.proofs.Layers.{apart_empty}
use Rattle.arena_ast.specs.Asts.{ast_blocks}
use Rattle.arena_ast.proofs.AstLemmas.{no_nodes, frame_of_none}
use Rattle.arena_ast.proofs.ast.Ast.new_in.Goals as goal

pub returns-clause-fresh : goal.returns-clause-fresh
returns-clause-fresh g c memory =
    let block = c.new_in.result.raw.block in
    let empty = ap (λ (b : Block). b.size) c.new_in.ensures.block in
    let names = c.new_in-2.ensures in
    record {
      held = record {
        nodes = no_nodes _ _ (c.new_in.ensures.held memory) (c.new_in.ensures.list memory);
        names = names.held memory;
        apart = names.apart memory (block ∷ []);
      };
      frame = frame_of_none memory (ast_blocks memory (record { nodes = c.new_in.result; names = c.new_in-2.result }))
          (λ others. (apart_empty block.addr block.size others empty, names.apart memory others));
    }

pub returns-clause-rows : goal.returns-clause-rows
returns-clause-rows g c memory = λ i. record { names = c.new_in-2.ensures.names memory i; nodes = c.new_in.ensures.list memory i }
