use Rattle.collection_tests.proofs.tests.copies.kept.Kept.copied.Goals as goal

pub invariant_of-result : goal.invariant_of-result
invariant_of-result g c = record {
  keys_small = c.self.invariant.keys_small;
  values_small = c.self.invariant.values_small;
  held = (rw c.expect-map.ensures at c.clone_in_impl.ensures.made).held.0;
}
