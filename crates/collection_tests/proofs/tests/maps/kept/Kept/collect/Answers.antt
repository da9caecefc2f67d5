use Rattle.std.proofs.Common.{[]}
use Rattle.collection_tests.proofs.HeldLemmas.{kept_beside}
use Rattle.collection_tests.proofs.tests.maps.kept.Kept.collect.Goals as goal

pub invariant_of-self : goal.invariant_of-self
invariant_of-self g c =
    let before = c.self.invariant in
    (before.0, kept_beside _ c.self.inside.map c.self.inside.a.memory c.from_iter_in.new.a.memory [] c.in_err-map.ensures.beside before.1)
