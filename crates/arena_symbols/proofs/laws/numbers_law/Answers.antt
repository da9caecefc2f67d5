use Rattle.std.proofs.lemmas.Option.{slice_get_within}
use Rattle.arena_symbols.proofs.NumberLemmas.{number_there}
use Rattle.arena_symbols.proofs.laws.numbers_law.Goals as goal

pub returns-clause-below : goal.returns-clause-below
returns-clause-below c = λ texts text n is. slice_get_within texts n text (number_there text texts n is)

pub returns-clause-one : goal.returns-clause-one
returns-clause-one c = λ texts text other n is also. cc (number_there text texts n is, number_there other texts n also)
