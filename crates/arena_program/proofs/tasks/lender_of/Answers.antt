use Rattle.arena_program.proofs.TaskLemmas.{no_arenas, odd_bytes}
use Rattle.arena_program.proofs.tasks.lender_of.Goals as goal

pub returns-in_err-arenas : goal.returns-in_err-arenas
returns-in_err-arenas c =
    rw c.from_residual-in_err-arenas.ensures
    (no_arenas c.args.words.now c.in_ok-rest.rest.now c.in_ok-bytes.rest.now c.in_ok-bytes.bytes c.in_ok-rest.ensures
    c.in_ok-bytes.ensures c.in_err-arenas.ensures)

pub returns-then-bytes-ne0 : goal.returns-then-bytes-ne0
returns-then-bytes-ne0 c = odd_bytes c.args.words.now c.in_ok-rest.rest.now c.in_ok-bytes.rest.now c.in_ok-bytes.bytes
    c.in_ok-rest.ensures c.in_ok-bytes.ensures c.if-bytes-ne0.true
