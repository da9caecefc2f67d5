use Rattle.std.proofs.Common.{◌+◌, ◌≤◌, List, length, take}
use Rattle.call_rules.specs.declared.calls.Reply.{Reply}
use Rattle.arena_runs.specs.Replies.{TakesMore}
use Rattle.arena_store.specs.Source.{view}
use Rattle.arena_runs.specs.Running.{IsRunning}
use Rattle.arena_runs.proofs.run.run_calls_into.Given as goal

abbrev pub invariant-loop-done : goal.invariant-loop-done
invariant-loop-done g l = record {
  list : List Reply;
  running : IsRunning (view l.initial.arena (g.C.ChunkSource.source l.initial.chunks))
      (view l.arena (g.C.ChunkSource.source l.chunks)) l.run.names l.run.marks
      (take l.done l.calls) list;
  taken : TakesMore g.R.Replies.has_taken l.initial.replies l.replies list;
  room : length l.calls ≤ g.R.Replies.room l.replies + l.done;
}
