use Rattle.arena_core.proofs.WalkLemmas.{stored_ordered, parts_stored, ranges_stored, chunks_stored}
use Rattle.arena_core.proofs.arena.Arena.walk.Goals as goal

pub of-requires-clause-ordered : goal.of-requires-clause-ordered
of-requires-clause-ordered g c = stored_ordered g.row.MIN_ALIGN c.self.inside c.self.invariant

pub returns : goal.returns
returns g c = record {
  parts = parts_stored g.row.MIN_ALIGN c.self.inside c.args.self.now _ c.self.invariant c.self.view_is c.of.ensures;
  ranges = ranges_stored g.row.MIN_ALIGN c.self.inside c.args.self.now _ c.self.view_is c.of.ensures;
  chunks = chunks_stored g.row.MIN_ALIGN c.self.inside c.args.self.now _ c.self.view_is c.of.ensures;
}
