use Rattle.std.proofs.Common.{arith}
use Rattle.arena_rules.proofs.DoublingLemmas.{doubling_sum}
use Rattle.call_rules.specs.Machine.{fresh}
use Rattle.call_rules.proofs.DoublingRunLemmas.{step_doubling, run_doubling}
use Rattle.call_rules.proofs.laws.chunks.doubling_runs.Goals as goal

pub returns : goal.returns
returns c = record {
  by_step = λ z m call k next small double step made. (step_doubling z k m small double call made).at next step;
  by_run = λ z state. run_doubling z (fresh state);
  from_none = λ state calls ks replies last none ran made.
      doubling_sum 16320 last.state (run_doubling 16320 (fresh state) calls ks replies last (omega arith) (rw none tt) ran made);
}
