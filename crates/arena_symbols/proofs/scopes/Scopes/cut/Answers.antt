use Rattle.std.proofs.Common.{arith}
use Rattle.arena_symbols.proofs.UndoLemmas.{cut_none, cut_then}
use Rattle.arena_symbols.proofs.scopes.Scopes.cut.Goals as goal

pub pairs-init : goal.pairs-init
pairs-init g c = (cut_none c.args.a.now c.args.self.now (omega arith) c.requires.held, c.requires.within)

pub pairs-preserved : goal.pairs-preserved
pairs-preserved g c =
    let more = c.pairs-test.true in (
      cut_then (omega (arith, c.undo.ensures.len)) (omega (arith, c.undo.ensures.len)) c.pairs.invariant.0 c.undo.ensures,
      omega (arith, c.undo.ensures.len, c.len.ensures, more),
    )
