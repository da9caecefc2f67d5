use Rattle.collection_tests.proofs.tests.symbols.kept.Texts.new.Goals as goal

pub invariant_of-result : goal.invariant_of-result
invariant_of-result g c = c.new_in-symbols.ensures.held c.args.a.memory
