use Rattle.std.proofs.lemmas.Result.{err_from_is_err_and}
use Rattle.arena_clone.proofs.BuilderLemmas.{builder_refused, source_readable, builder_made}
use Rattle.arena_clone.proofs.builders.StringBuilderCloneIn.copy_of.Goals as goal

pub returns-in_err-copy : goal.returns-in_err-copy
returns-in_err-copy g c =
    let p = err_from_is_err_and c.from_residual.result c.from_residual.ensures.1 in
    rw (p.1, p.2) (builder_refused c.args.ids (g.O.Origin.there c.args.from.now c.args.to.now.memory) c.args.self.now c.in_err-copy.ensures)

pub copy_front-requires-clause-source : goal.copy_front-requires-clause-source
copy_front-requires-clause-source g c =
    source_readable (g.met.O.Origin.is_origin c.args.from.now) c.args.ids c.args.self.now c.in_ok-copy.ensures c.requires.held

pub returns : goal.returns
returns g c =
    builder_made (g.met.O.Origin.is_origin c.args.from.now) c.args.ids c.args.self.now c.in_ok-copy.ensures c.requires.held
    c.copy_front.ensures.writes c.copy_front.ensures.source
