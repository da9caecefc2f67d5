use Rattle.std.proofs.Common.{ℕ, arith, length-take}
use Rattle.arena_calls.proofs.StreamLemmas.{too_long}
use Rattle.arena_calls.proofs.streams.all.read_all.Goals as goal

pub returns-then-count-room-clause-all : goal.returns-then-count-room-clause-all
returns-then-count-room-clause-all g c =
    let within = c.in-Ok.ensures.within in
    too_long _ _ _ c.reads.bytes.items c.read.new.buffer c.in-Ok.count c.reads.invariant.taken c.in-Ok.ensures.bytes (omega arith)
    (omega (arith, length-take {A = ℕ}))
