use Rattle.std.proofs.Common.{arith}
use Rattle.arena_core.proofs.StoredLemmas.{older_ordered}
use Rattle.arena_core.proofs.RewindLemmas.{first_kept}
use Rattle.arena_core.proofs.arena.Arena.keep_first.Goals as goal

pub back_to-requires-clause-ordered : goal.back_to-requires-clause-ordered
back_to-requires-clause-ordered g c = older_ordered g.row.MIN_ALIGN c.self.inside c.self.invariant

pub invariant_of-self-2 : goal.invariant_of-self-2
invariant_of-self-2 g c =
    (first_kept g.row.MIN_ALIGN c.self.inside c.args.self.now c.args.n c.back_to.result c.back_to.new.self.items c.self.invariant
    c.self.view_is (omega (arith, c.if-n-eq0.false)) c.requires.within
    (λ same. c.if-n-count.false (omega (arith, same, c.chunk_count-count.ensures))) c.back_to.ensures).stored

pub returns-clause-memory : goal.returns-clause-memory
returns-clause-memory g c =
    (first_kept g.row.MIN_ALIGN c.self.inside c.args.self.now c.args.n c.back_to.result c.back_to.new.self.items c.self.invariant
    c.self.view_is (omega (arith, c.if-n-eq0.false)) c.requires.within
    (λ same. c.if-n-count.false (omega (arith, same, c.chunk_count-count.ensures))) c.back_to.ensures).view

pub returns-clause-valid : goal.returns-clause-valid
returns-clause-valid g c =
    (first_kept g.row.MIN_ALIGN c.self.inside c.args.self.now c.args.n c.back_to.result c.back_to.new.self.items c.self.invariant
    c.self.view_is (omega (arith, c.if-n-eq0.false)) c.requires.within
    (λ same. c.if-n-count.false (omega (arith, same, c.chunk_count-count.ensures))) c.back_to.ensures).stored.valid
