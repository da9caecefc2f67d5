use Rattle.std.proofs.lemmas.Bool.Decides.{nat_tests}
use Rattle.std.proofs.Common.{◌≡◌, ◌+◌, ◌++◌, [], ◌∷◌, ◌∙◌, ap, sym, arith, drop}
use Rattle.std.proofs.lemmas.Grind.{common_steps}
use Rattle.std.proofs.lemmas.List.{drop_all}
use Rattle.script_rules.specs.Machine.{Answer, Ran, ran_on}
use Rattle.plain_scripts.proofs.LoopLemmas.{drop_at, run_begun, run_more, run_none, first_none, first_more, stops_after}
use Rattle.plain_scripts.proofs.machine.PlainScripts.run_from.Goals as goal

pub loop-command-init : goal.loop-command-init
loop-command-init c = record {
  rest = run_begun c.args.self.now c.args.commands.now c.new-replies.ensures c.new-costs.ensures.items;
  first = first_none c.args.self.now c.args.commands.now;
}

pub loop-command-preserved : goal.loop-command-preserved
loop-command-preserved c =
    let ran : Ran = record { replies = c.loop-command.replies; costs = c.loop-command.costs.items; objects = c.loop-command.self } in
    let rest = drop (c.loop-command.command-index + 1) c.args.commands.now in
    let costs : c.push-in-loop-command.new.self.items
    ≡ c.loop-command.costs.items ++ c.in_ok-answered.answered.cost ∷ [] = grind (arith, common_steps) in record {
      rest = rw (c.in_ok-push.ensures.ok, costs)
          (ap (λ (a : Answer). ran_on
          (record { replies = ran.replies ++ a.reply ∷ []; costs = ran.costs ++ a.cost ∷ []; objects = a.objects }) rest)
          c.in_ok-answered.ensures.ok
          ∙ sym (run_more ran c.command-item.result rest)
          ∙ ap (ran_on ran) (sym
          (drop_at c.args.commands.now c.loop-command.command-index c.command-item.result c.loop-command-test.true c.command-item.is))
          ∙ c.loop-command.invariant.rest);
      first = ap (λ (a : Answer). a.objects) c.in_ok-answered.ensures.ok
          ∙ first_more c.args.self.now c.args.commands.now c.loop-command.command-index c.command-item.result c.loop-command-test.true
          c.command-item.is c.loop-command.invariant.first;
    }

pub returns-in_err-push-clause-err : goal.returns-in_err-push-clause-err
returns-in_err-push-clause-err c = grind (arith, nat_tests, stops_after)

pub returns-in_err-push-2-clause-err : goal.returns-in_err-push-2-clause-err
returns-in_err-push-2-clause-err c = grind (arith, nat_tests, stops_after)

pub returns-clause-ok : goal.returns-clause-ok
returns-clause-ok c =
    let ran : Ran = record { replies = c.loop-command.replies; costs = c.loop-command.costs.items; objects = c.loop-command.self } in
    sym (ap (ran_on ran) (drop_all c.loop-command.command-index c.args.commands.now c.loop-command-test.false) ∙ run_none ran)
    ∙ c.loop-command.invariant.rest
