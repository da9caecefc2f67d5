use Rattle.collection_tests.proofs.tests.symbols.kept.Both.new.Goals as goal

pub invariant_of-result : goal.invariant_of-result
invariant_of-result c = c.new_in-names.ensures.held c.args.a.memory
