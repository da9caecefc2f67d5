use Rattle.std.proofs.Common.{◌≡◌, ◌-◌, ◌^◌, ◌≤◌, false, List}
use Rattle.call_rules.specs.Generator.{gen_calls, seed_before}
use Rattle.call_rules.specs.declared.calls.Reply.{Reply}
use Rattle.arena_store.specs.Source.{view}
use Rattle.arena_runs.specs.Running.{IsRunning}
use Rattle.arena_calls.specs.Tallies.{IsTally}
use Rattle.arena_oracle.specs.Sources.{source_of}
use Rattle.arena_oracle.proofs.TurnLemmas.{KeepsFirst}
use Rattle.arena_oracle.proofs.within.run_generated_within.Given as goal

abbrev pub invariant-loop-i : goal.invariant-loop-i
invariant-loop-i l = record {
  list : List Reply;
  running : IsRunning (view l.initial.arena (source_of l.initial.chunks)) (view l.arena (source_of l.chunks))
      l.run.names l.run.marks (gen_calls l.start l.i) list;
  seed : l.draws.seed ≡ seed_before l.start l.i;
  tally : IsTally l.tally list;
  calls : l.tally.calls ≡ l.i;
  most : l.count ≤ 2 ^ 32 - 1;
  turns : l.exhausted ≡ false → KeepsFirst (source_of l.initial.chunks) l.initial.arena.state l.chunks (gen_calls l.start) l.i list;
}
