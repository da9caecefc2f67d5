use Rattle.std.proofs.Common.{◌≡◌, ◌+◌, ◌≤◌, false, List, length, take}
use Rattle.call_rules.specs.declared.calls.Reply.{Reply}
use Rattle.arena_runs.specs.Replies.{TakesMore}
use Rattle.arena_store.specs.Source.{view}
use Rattle.arena_runs.specs.Running.{IsRunning}
use Rattle.arena_oracle.specs.Sources.{source_of}
use Rattle.arena_oracle.proofs.TurnLemmas.{KeepsFirst}
use Rattle.arena_oracle.proofs.within.run_calls_within.Given as goal

abbrev pub invariant-loop-done : goal.invariant-loop-done
invariant-loop-done g l = record {
  list : List Reply;
  running : IsRunning (view l.initial.arena (source_of l.initial.chunks)) (view l.arena (source_of l.chunks))
      l.run.names l.run.marks (take l.done l.calls) list;
  taken : TakesMore g.R.Replies.has_taken l.initial.replies l.replies list;
  room : length l.calls ≤ g.R.Replies.room l.replies + l.done;
  turns : l.exhausted ≡ false → KeepsFirst (source_of l.initial.chunks) l.initial.arena.state l.chunks (λ n. take n l.calls) l.done list;
}
