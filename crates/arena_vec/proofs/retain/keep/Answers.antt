use Rattle.std.proofs.Common.{◌≡◌, ap, ◌∙◌, length}
use Rattle.arena_chunks.specs.Memory.{image}
use Rattle.arena_chunks.proofs.Layers.{length-bytes, wrote_whole}
use Rattle.arena_vec.proofs.retain.keep.Goals as goal

pub returns-clause-list : goal.returns-clause-list
returns-clause-list g c =
    let lent = c.read_mut.ensures in
    let size = length-bytes (image c.args.a.now.memory) c.args.block.addr c.args.block.size in
    let sized : length c.sift.new.bytes ≡ c.args.block.size = c.sift.auto.bytes ∙ ap length lent.value ∙ size in
    rw (wrote_whole _ _ c.args.block _ (lent.writes c.sift.new.bytes sized) sized, ← lent.value) c.sift.ensures.list
