use Rattle.arena_items.specs.Values.{elements, bytes_of}
use Rattle.arena_clone.proofs.RowLemmas.{CopiesFirst}
use Rattle.arena_clone.proofs.rows.copy_row.Given as goal

abbrev pub invariant-loop-i : goal.invariant-loop-i
invariant-loop-i g l =
    CopiesFirst g.T.Item g.T.CloneIn.kind l.ids (g.O.Origin.there l.from l.initial.to.memory) l.initial.to l.to l.row.target
    (elements g.T.Item.SIZE g.T.Item.decoded l.row.count (bytes_of (g.O.Origin.there l.from l.initial.to.memory) l.row.source)) l.i
