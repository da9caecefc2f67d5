use Rattle.std.proofs.Common.{◌≡◌, ◌-◌, ◌^◌, ◌≤◌, List}
use Rattle.call_rules.specs.Generator.{gen_calls, seed_before}
use Rattle.call_rules.specs.declared.calls.Reply.{Reply}
use Rattle.arena_chunks.specs.Source.{view}
use Rattle.arena_runs.specs.Running.{IsRunning}
use Rattle.arena_calls.specs.Tallies.{IsTally}
use Rattle.arena_calls.proofs.generator.run.count_replies.Given as goal

abbrev pub invariant-loop-i : goal.invariant-loop-i
invariant-loop-i g l = record {
  list : List Reply;
  running : IsRunning (view l.initial.arena (g.C.ChunkSource.source l.initial.chunks))
      (view l.arena (g.C.ChunkSource.source l.chunks)) l.run.names l.run.marks (gen_calls l.start l.i) list;
  seed : l.draws.seed ≡ seed_before l.start l.i;
  tally : IsTally l.tally list;
  calls : l.tally.calls ≡ l.i;
  most : l.count ≤ 2 ^ 32 - 1;
}
