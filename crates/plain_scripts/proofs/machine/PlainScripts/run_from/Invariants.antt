use Rattle.std.proofs.Common.{◌≡◌, drop, take}
use Rattle.script_rules.specs.Machine.{run_from, ran_on}
use Rattle.plain_scripts.proofs.machine.PlainScripts.run_from.Given as goal

abbrev pub invariant-loop-command : goal.invariant-loop-command
invariant-loop-command l = record {
  rest : ran_on (record { replies = l.replies; costs = l.costs.items; objects = l.self }) (drop l.command-index l.commands)
      ≡ run_from l.initial.self l.commands;
  first : l.self ≡ (run_from l.initial.self (take l.command-index l.commands)).objects;
}
