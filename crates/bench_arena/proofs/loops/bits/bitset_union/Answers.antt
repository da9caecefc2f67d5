use Rattle.bench_arena.proofs.loops.bits.bitset_union.Goals as goal

pub joined-requires-clause-other : goal.joined-requires-clause-other
joined-requires-clause-other c =
    (c.frame_law.ensures _ _ _ _ c.in_ok-other.other c.in_ok-set.ensures.frame c.in_ok-other.ensures.0 (tt, tt)).held

pub joined-requires-clause-apart : goal.joined-requires-clause-apart
joined-requires-clause-apart c =
    (c.frame_law.ensures _ _ _ _ c.in_ok-other.other c.in_ok-set.ensures.frame c.in_ok-other.ensures.0 (tt, tt)).apart.0.0
