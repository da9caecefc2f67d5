use Rattle.std.proofs.Common.{◌≡◌, ◌≤◌, length, take}
use Rattle.std.specs.Vec.{vec_capacity}
use Rattle.script_rules.specs.Machine.{run}
use Rattle.arena_script.specs.Serves.{IsAfter}
use Rattle.arena_script.proofs.run.serve_all.Given as goal

abbrev pub invariant-loop-command : goal.invariant-loop-command
invariant-loop-command g l = record {
  after : IsAfter l.commands l.initial.a l.a l.things l.command-index;
  replies : l.replies.items ≡ (run (take l.command-index l.commands)).replies;
  count : length l.replies.items ≡ l.command-index;
  room : length l.commands ≤ vec_capacity l.replies;
}
