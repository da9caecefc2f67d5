use Rattle.std.proofs.Common.{arith, refl}
use Rattle.arena_chunks.specs.Checkpoints.{checkpoint_of}
use Rattle.example_blocks.proofs.TryLemmas.{try_over}
use Rattle.example_blocks.proofs.tries.would_lie.Goals as goal

pub rewind-requires : goal.rewind-requires
rewind-requires g c =
    let placed = c.try_alloc_layout-placed.ensures in
    let keeps = c.marks.ensures.placed (checkpoint_of c.args.arena.now.state) _ _ _ _ _ (c.marks.ensures.own _ placed.1.valid.entry) placed
    in
    (omega arith, rw c.checkpoint-mark.ensures keeps.0)

pub returns-clause-tried : goal.returns-clause-tried
returns-clause-tried g c = (_, c.try_alloc_layout-placed.ensures, refl, (rw c.checkpoint-mark.ensures at c.rewind.ensures.memory))

pub returns-clause-kept : goal.returns-clause-kept
returns-clause-kept g c =
    let placed = c.try_alloc_layout-placed.ensures in
    let keeps = c.marks.ensures.placed (checkpoint_of c.args.arena.now.state) _ _ _ _ _ (c.marks.ensures.own _ placed.1.valid.entry) placed
    in
    try_over _ _ _ _ _ _ placed keeps (rw c.checkpoint-mark.ensures at c.rewind.ensures.memory) c.rewind.ensures.back
