use Rattle.std.proofs.Common.{arith}
use Rattle.arena_symbols.specs.Named.{all_credit}
use Rattle.arena_symbols.specs.Names.{names_credit}
use Rattle.arena_symbols.specs.Paying.{Pays, far_up}
use Rattle.arena_symbols.proofs.NamedLemmas.{scopes_moved}
use Rattle.arena_symbols.proofs.PayLemmas.{pays_more}
use Rattle.arena_symbols.proofs.names.Names.enter.Goals as goal

pub returns : goal.returns
returns g c =
    let pays : Pays far_up 64 (all_credit c.args.self.now) (all_credit (record c.args.self.now { scopes = c.enter.new.self })) c.args.a.now
    c.enter.new.a c.enter.result = pays_more (names_credit c.args.self.now.symbols) (omega arith) (omega arith) (omega arith) (omega arith)
    c.enter.ensures.pays in
    grind (arith, c.enter.ensures, scopes_moved c.requires c.enter.new.self c.enter.ensures.held c.enter.ensures.frame, pays)
