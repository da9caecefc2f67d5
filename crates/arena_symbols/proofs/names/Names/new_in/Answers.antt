use Rattle.arena_symbols.specs.Names.{names_footprint}
use Rattle.arena_symbols.proofs.names.Names.new_in.Goals as goal

pub returns : goal.returns
returns c = record {
  held = λ memory. record {
    symbols = c.new_in.ensures.held memory;
    scopes = c.new_in-2.ensures.held memory;
    apart = c.new_in-2.ensures.apart (names_footprint memory c.new_in.result);
  };
  symbols = c.new_in.ensures;
  scopes = c.new_in-2.ensures;
}
