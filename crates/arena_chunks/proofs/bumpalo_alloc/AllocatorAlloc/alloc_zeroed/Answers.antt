use Rattle.std.proofs.Common.{◌≡◌, ◌+◌, ◌-◌, arith}
use Rattle.arena_core.proofs.BlockCallLemmas.{wrote_fill}
use Rattle.arena_chunks.proofs.bumpalo_alloc.AllocatorAlloc.alloc_zeroed.Goals as goal

pub returns-clause-zeros : goal.returns-clause-zeros
returns-clause-zeros g c =
    let block = c.in_ok-block.block in
    let first : block.addr + 0 ≡ block.addr = omega arith in
    let whole : block.size - 0 ≡ c.args.layout.size = omega (arith, c.in_ok-block.ensures.1.outcome.of_layout.of_size) in
    rw (first, whole) at (wrote_fill _ _ block 0 (block.size - 0) 0 c.fill.ensures)
