use Rattle.std.proofs.Common.{arith}
use Rattle.arena_items.specs.laws.LayoutLaws.{plain_8}
use Rattle.arena_items.proofs.Layers.{pair_at_most}
use Rattle.example_blocks.proofs.beside.place_pair.Goals as goal

pub alloc-requires : goal.alloc-requires
alloc-requires g c = omega (arith, c.requires, pair_at_most g.T.Item.SIZE g.T.Item.ALIGN 8 8 g.met.T.Item.layout plain_8)
