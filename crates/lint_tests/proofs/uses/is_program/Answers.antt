use Rattle.lint_tests.proofs.uses.is_program.Goals as goal

pub returns-in-Some-clause-refused : goal.returns-in-Some-clause-refused
returns-in-Some-clause-refused c = λ h. (c.in-Some._refused, c.in-Some.ensures.read)

pub returns-in-None-clause-program : goal.returns-in-None-clause-program
returns-in-None-clause-program c = λ h.
    let read = c.in-None.ensures.read in
    (read.0, read.1, (c.well_formed-2.ensures c.args.src.now read.0 read.1).0)
