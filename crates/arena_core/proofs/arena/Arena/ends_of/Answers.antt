use Rattle.std.proofs.Common.{arith, sym, ◌∙◌}
use Rattle.arena_core.proofs.StoredLemmas.{older_ordered}
use Rattle.arena_core.proofs.RewindLemmas.{ends_in}
use Rattle.arena_core.proofs.arena.Arena.ends_of.Goals as goal

pub ends-requires-clause-ordered : goal.ends-requires-clause-ordered
ends-requires-clause-ordered g c = older_ordered g.row.MIN_ALIGN c.self.inside c.self.invariant

pub returns : goal.returns
returns g c =
    let is = c.ends.ensures in
    let ends = ends_in g.row.MIN_ALIGN c.self.inside c.args.self.now c.args.n is.0 c.self.invariant c.self.view_is c.requires.some
    (omega (arith, c.if-n-len.false, c.len.ensures.value)) c.requires.within is.1 in
    record { start = is.2 ∙ sym ends.start; top = is.3 ∙ sym ends.top }
