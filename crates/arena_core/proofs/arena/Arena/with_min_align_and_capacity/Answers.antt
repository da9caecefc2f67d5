use Rattle.std.proofs.lemmas.Bool.Decides.{nat_tests}
use Rattle.std.proofs.Common.{arith}
use Rattle.arena_core.proofs.CreatedLemmas.{created_empty, created_unasked, created_refused, created_first, first_stored}
use Rattle.arena_core.proofs.arena.Arena.with_min_align_and_capacity.Goals as goal

pub returns-then-capacity-eq0 : goal.returns-then-capacity-eq0
returns-then-capacity-eq0 g c =
    rw c.with_min_align.ensures (created_empty g.row.MIN_ALIGN c.args.capacity
    (g.C.ChunkSource.source c.args.chunks.now) c.if-capacity-eq0.true)

pub returns-in_default : goal.returns-in_default
returns-in_default g c =
    created_unasked g.row.MIN_ALIGN c.args.capacity (g.C.ChunkSource.source c.args.chunks.now) c.if-capacity-eq0.false
    c.in_default.ensures.value

pub over-requires : goal.over-requires
over-requires g c = grind (arith, nat_tests, first_stored)

pub returns-in-Some-request_region : goal.returns-in-Some-request_region
returns-in-Some-request_region g c =
    rw (c.over.ensures, c.unused-first.ensures.chunk)
    (created_first g.row.MIN_ALIGN c.args.capacity c.in-Some.size (g.C.ChunkSource.source c.args.chunks.now)
    (g.C.ChunkSource.source c.request_region.new.self)
    c.requires c.if-capacity-eq0.false c.in-Some.ensures.value c.in-Some-request_region.bytes c.in-Some-request_region.ensures.zeros
    c.in-Some-request_region.ensures.granted c.in-Some-request_region.ensures.told)

pub returns-in-None : goal.returns-in-None
returns-in-None g c =
    created_refused g.row.MIN_ALIGN c.args.capacity c.in-Some.size (g.C.ChunkSource.source c.args.chunks.now)
    (g.C.ChunkSource.source c.request_region.new.self)
    c.requires c.if-capacity-eq0.false c.in-Some.ensures.value c.in-None.ensures.refused c.in-None.ensures.bounded c.in-None.ensures.told
