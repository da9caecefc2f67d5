-- A copy's blocks next to a list, whose block is replaced by a call on the list alone.
use Rattle.std.proofs.Common.{List, [], ◌∷◌}
use Rattle.arena_chunks.specs.Frame.{Frame, AreAllApart, ArePairwiseApart}
use Rattle.arena_chunks.specs.Memory.{Memory}
use Rattle.arena_store.specs.declared.block.Block.{Block}
use Rattle.arena_chunks.proofs.Layers.{frame_then, frame_weaken, frame_keeps_all}
use Rattle.arena_items.specs.Footprint.{AreReadable}
use Rattle.arena_items.proofs.Layers.{stays_apart}
use Rattle.arena_clone.proofs.Layers.{all_turned}

-- What is disjoint from blocks is disjoint from the first of them.
pub first_apart : (bs cs : List Block) (c : Block) → AreAllApart bs (c ∷ cs) → AreAllApart bs (c ∷ [])
first_apart [] cs c all = tt
first_apart (b ∷ bs) cs c all = ((all.0.0, tt), first_apart bs cs c all.1)

-- If a call replaces a list's block, the new block is disjoint from the blocks that stay.
pub beside_apart : (mid new : Memory) (blocks : List Block) (before after : Block) → Frame mid new (before ∷ []) (after ∷ [])
    → AreReadable mid.state blocks → AreAllApart blocks (before ∷ []) → ArePairwiseApart blocks → ArePairwiseApart (after ∷ blocks)
beside_apart mid new blocks before after frame readable apart each =
    let stays = frame_keeps_all mid new (before ∷ []) (after ∷ []) blocks frame readable apart in
    ((all_turned blocks (after ∷ []) (stays_apart mid new (after ∷ []) blocks stays)).0, each)

-- A call that places blocks, followed by one that replaces the list's block: together they replace that block and add
-- these.
pub beside_frame : (old mid new : Memory) (blocks : List Block) (before after : Block) → Frame old mid [] blocks
    → Frame mid new (before ∷ []) (after ∷ []) → Frame old new (before ∷ []) (after ∷ blocks)
beside_frame old mid new blocks before after first second =
    frame_then old mid new (before ∷ []) (before ∷ blocks) (after ∷ blocks)
    (frame_weaken old mid [] (before ∷ []) blocks (before ∷ blocks) (λ addr n some apart. tt)
    (λ addr n some apart rest. (apart.0, rest)) first)
    (frame_weaken mid new (before ∷ []) (before ∷ blocks) (after ∷ []) (after ∷ blocks) (λ addr n some apart. (apart.0, tt))
    (λ addr n some apart rest. (rest.0, apart.1)) second)
