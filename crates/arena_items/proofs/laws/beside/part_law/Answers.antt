use Rattle.arena_items.proofs.laws.beside.part_law.Goals as goal

pub returns : goal.returns
returns g c = record {
  first = λ old new v u w beside moves.
      let is = c.beside_law.ensures.first old new v u w beside moves.held moves.frame in record { held = is.beside; frame = is.frame };
  second = λ old new v w u beside moves.
      let is = c.beside_law.ensures.second old new v w u beside moves.held moves.frame in record { held = is.beside; frame = is.frame };
}
