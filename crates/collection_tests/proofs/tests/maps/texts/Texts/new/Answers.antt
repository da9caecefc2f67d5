use Rattle.std.proofs.Common.{arith}
use Rattle.collection_tests.proofs.tests.maps.texts.Texts.new.Goals as goal

pub invariant_of-result : goal.invariant_of-result
invariant_of-result g c = record { keys_small = omega arith; values_small = omega arith; held = c.new_in-map.ensures.map.held _ }
