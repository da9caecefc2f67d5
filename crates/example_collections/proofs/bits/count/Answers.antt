use Rattle.std.proofs.Common.{length, ap, ◌∙◌}
use Rattle.std.proofs.lemmas.Iterator.Consumers.{count_from_yields_List}
use Rattle.arena_bits.specs.Walks.{Walk}
use Rattle.arena_bits.proofs.Layers.{walk_gives_all}
use Rattle.example_collections.proofs.bits.count.Goals as goal

pub returns : goal.returns
returns g c =
    count_from_yields_List c.ones.result c.count.result c.count.ensures.ran (walk_gives_all c.ones.result)
    ∙ ap (λ (w : Walk). length w.left) c.ones.ensures.walk
