use Rattle.std.proofs.Common.{◌≡◌, ℕ, ◌<◌, List, All, length}
use Rattle.std.specs.List.{AllZip}
use Rattle.std.specs.Vec.Iter.{into_iter_items}
use Rattle.arena_workers.specs.Working.{IsServed}
use Rattle.arena_workers.specs.Order.{IsShift}
use Rattle.arena_workers.proofs.lent.Crew.place.Given as goal

abbrev pub invariant-loop-i : goal.invariant-loop-i
invariant-loop-i g l =
    let served = IsServed g.K.Chunks.ChunkSource.source g.L.PoolName.kind g.W.Work.terms in
    (length l.all.items ≡ length l.fn.all.items) × All (λ numbered. numbered.0 < length l.fn.all.items) (into_iter_items l.i-iterator)
    × ((pieces : List (ℕ × g.row.W-Piece.Denot)) → AllZip served pieces l.fn.all.items → IsShift served pieces l.fn.shift.items
    → AllZip served pieces l.all.items × IsShift served pieces (into_iter_items l.i-iterator))
