use Rattle.collection_tests.proofs.HeldLemmas.{plain}
use Rattle.collection_tests.proofs.tests.maps.kept.Kept.new.Goals as goal

pub invariant_of-result : goal.invariant_of-result
invariant_of-result g c =
    let sizes = c.requires in
    (plain _ sizes.plain, record { keys_small = sizes.keys_small; values_small = sizes.values_small; held = c.new_in-map.ensures.map.held _ })
