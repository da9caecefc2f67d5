use Rattle.arena_program.proofs.parsing.+halves.Given as goal

abbrev pub decreases-join+arg2 : goal.decreases-join+arg2
decreases-join+arg2 g l = l.few

abbrev pub decreases-join+arg3 : goal.decreases-join+arg3
decreases-join+arg3 g l = l.more

abbrev pub decreases-parse_on_workers : goal.decreases-parse_on_workers
decreases-parse_on_workers g l = l.workers
