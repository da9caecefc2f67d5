use Rattle.arena_chunks.specs.Memory.{image}
use Rattle.arena_clone.proofs.CopiedLemmas.{copied_placed, copied_bytes, source_kept, front_kept}
use Rattle.arena_clone.proofs.blocks.place_copy.Goals as goal

pub copy_front-requires-clause-source : goal.copy_front-requires-clause-source
copy_front-requires-clause-source g c =
    source_kept (g.met.O.Origin.is_origin c.args.from.now) c.args.to.now c.place.new.a c.args.size c.args.align c.in_ok-block.block
    c.args.source c.in_ok-block.ensures c.requires.readable

pub returns-clause-placed : goal.returns-clause-placed
returns-clause-placed g c =
    copied_placed c.args.to.now c.place.new.a c.copy_front.new.to c.args.size c.args.align c.in_ok-block.block _ c.in_ok-block.ensures
    c.copy_front.ensures.writes c.copy_front.ensures.source

pub returns-clause-bytes : goal.returns-clause-bytes
returns-clause-bytes g c =
    copied_bytes c.args.to.now c.place.new.a c.copy_front.new.to c.args.size c.args.align c.in_ok-block.block _ c.in_ok-block.ensures
    c.copy_front.ensures.writes (image (g.O.Origin.there c.args.from.now c.args.to.now.memory)) c.args.source.addr
    (front_kept (g.met.O.Origin.is_origin c.args.from.now) c.args.to.now c.place.new.a c.args.size c.args.align c.in_ok-block.block
    c.args.source c.in_ok-block.ensures c.requires.readable c.args.size c.requires.enough)
