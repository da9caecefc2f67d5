use Rattle.std.proofs.Common.{arith}
use Rattle.arena_symbols.proofs.NamedLemmas.{texts_moved, unnamed, bound}
use Rattle.arena_symbols.proofs.names.Names.bind.Goals as goal

pub define-requires : goal.define-requires
define-requires g c = (texts_moved c.requires.held c.in_ok-id.ensures).0.held.scopes

pub returns-in_err-id : goal.returns-in_err-id
returns-in_err-id g c = grind (arith, unnamed {value = c.args.value} c.requires.held c.in_err-id.ensures)

pub returns : goal.returns
returns g c = grind (arith, bound c.define.result c.requires.held c.in_ok-id.ensures c.define.ensures)
