use Rattle.std.proofs.Common.{◌≡◌, ◌≤◌, length, vec_len, vec_capacity, All}
use Rattle.std.specs.List.{AllZip, enumerate_from}
use Rattle.std.specs.Vec.Iter.{into_iter_items}
use Rattle.arena_workers.specs.Working.{IsServed, IsUnserved}
use Rattle.arena_workers.specs.Order.{IsShift}
use Rattle.arena_workers.proofs.lent.Crew.in_order.Given as goal

abbrev pub invariant-loop-piece : goal.invariant-loop-piece
invariant-loop-piece g l =
    (vec_len l.all ≡ l._piece-index) × (length l.pieces ≤ vec_capacity l.all) × All (IsUnserved g.W.Work.terms) l.all.items

abbrev pub invariant-loop-shift : goal.invariant-loop-shift
invariant-loop-shift g l =
    let served = IsServed g.K.Chunks.ChunkSource.source g.L.PoolName.kind g.W.Work.terms in
    let pieces = enumerate_from 0 l.pieces in
    AllZip served pieces l.all.items × All (λ shift. IsShift served pieces shift.items) (into_iter_items l.shift-iterator)
