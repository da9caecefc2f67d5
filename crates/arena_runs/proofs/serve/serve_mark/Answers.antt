use Rattle.std.proofs.lemmas.Bool.Decides.{nat_tests}
use Rattle.std.proofs.Common.{arith, refl, sym}
use Rattle.call_rules.specs.Machine.{step}
use Rattle.call_rules.specs.Requests.{placed_anew}
use Rattle.call_rules.specs.declared.calls.Call.TheVariants.{Mark}
use Rattle.call_rules.specs.declared.calls.Reply.TheVariants.{NameTaken}
use Rattle.arena_core.proofs.AnswerLemmas.{on_err}
use Rattle.arena_runs.proofs.Serving.{none_of, asks_none}
use Rattle.arena_runs.proofs.Marking.{marks_still, serves_mark}
use Rattle.arena_runs.proofs.serve.serve_mark.Goals as goal

pub returns-then-has-clause-serves : goal.returns-then-has-clause-serves
unfolding step placed_anew
returns-then-has-clause-serves g c = λ source.
    marks_still (Mark c.args.name) NameTaken _ _ _ source c.requires.holds c.requires.tracks refl (λ bytes. rw (← c.if-has.ensures) refl)
    (asks_none _ _ _ _ _ _ refl refl (λ marks bytes. refl) (λ marks bytes. refl))

pub set-requires : goal.set-requires
set-requires g c = sym c.if-has.ensures

pub returns-clause-serves : goal.returns-clause-serves
returns-clause-serves g c = λ source.
    serves_mark _ _ _ _ c.args.name source c.requires.holds c.requires.tracks (sym c.if-has.ensures)
    (rw c.checkpoint.ensures at c.in_ok-set.ensures)

pub returns-in_err-set-clause-wants : goal.returns-in_err-set-clause-wants
unfolding placed_anew
returns-in_err-set-clause-wants g c = grind (arith, nat_tests, on_err, none_of)
