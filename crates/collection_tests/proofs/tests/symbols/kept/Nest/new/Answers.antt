use Rattle.collection_tests.proofs.tests.symbols.kept.Nest.new.Goals as goal

pub invariant_of-result : goal.invariant_of-result
invariant_of-result g c = c.new_in-scopes.ensures.held c.args.a.memory
