use Rattle.std.proofs.Common.{ap, sym, ◌∙◌}
use Rattle.std.proofs.lemmas.Iterator.{items_from_drains}
use Rattle.std.proofs.lemmas.List.{map-id}
use Rattle.arena_bits.specs.Walks.{Walk}
use Rattle.arena_bits.proofs.Layers.{walk_gives_all}
use Rattle.arena_script.proofs.bits.numbers_of.Goals as goal

pub returns-in-Ok-clause-numbers : goal.returns-in-Ok-clause-numbers
returns-in-Ok-clause-numbers g c =
    let ran = c.in-Ok.ensures.ran in
    c.from_vec.ensures ∙ ran.2.0 ∙ sym (map-id ran.0) ∙ items_from_drains ran.0 ran.1 (walk_gives_all c.ones.result)
    ∙ ap (λ (w : Walk). w.left) c.ones.ensures.walk
