use Rattle.arena_tests.proofs.tests.marks.number.Given as goal

abbrev pub ghosts-number_of : goal.ghosts-number_of
ghosts-number_of g a = record { name = a.blank.name; parts = a.blank.parts }
