use Rattle.std.proofs.Common.{refl, [], ◌∷◌}
use Rattle.arena_symbols.specs.Names.{names_footprint}
use Rattle.arena_symbols.proofs.Layers.{all_turned}
use Rattle.arena_ast.proofs.CountLemmas.{interned_counts}
use Rattle.arena_ast.proofs.AstLemmas.{names_moved, name_interned, name_refused, named_rows}
use Rattle.arena_ast.proofs.ast.Ast.name.Goals as goal

pub returns : goal.returns
returns g c =
    let tree = c.args.self.now in
    let interns = c.intern.ensures in
    let names = names_footprint c.args.a.now.memory tree.names in
    let stays = c.frame_law.ensures _ _ names (names_footprint c.intern.new.a.memory c.intern.new.self) tree.nodes interns.frame
    c.requires.nodes.held (all_turned names (tree.nodes.raw.block ∷ []) c.requires.apart) in
    record {
      moves = names_moved tree c.requires interns stays.held stays.means stays.apart;
      counts = interned_counts interns;
      nodes = refl;
      rows = named_rows g.T.Item c.args.a.now c.intern.new.a tree c.intern.new.self c.args.name.now c.intern.result interns stays.means;
      number = interns.number;
      took = name_interned c.args.a.now c.intern.new.a tree.names c.intern.new.self c.args.name.now c.intern.result interns;
      refused = name_refused c.args.a.now c.intern.new.a tree c.intern.new.self c.args.name.now c.intern.result interns;
    }
