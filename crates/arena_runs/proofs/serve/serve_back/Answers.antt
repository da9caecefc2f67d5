use Rattle.std.proofs.Common.{refl, sym, ◌∙◌, arith}
use Rattle.call_rules.specs.Machine.{step, mark_named}
use Rattle.call_rules.specs.Requests.{placed_anew}
use Rattle.call_rules.specs.declared.calls.Call.TheVariants.{Back}
use Rattle.call_rules.specs.declared.calls.Reply.TheVariants.{NoSuchName}
use Rattle.arena_runs.specs.Marks.{named}
use Rattle.arena_runs.proofs.Serving.{none_of, asks_none}
use Rattle.arena_runs.proofs.Marking.{marks_still}
use Rattle.arena_runs.proofs.GoingBack.{serves_back, back_accepted}
use Rattle.arena_runs.proofs.serve.serve_back.Goals as goal

pub returns-then-not-has-clause-serves : goal.returns-then-not-has-clause-serves
unfolding step placed_anew
returns-then-not-has-clause-serves g c = λ source.
    marks_still (Back c.args.name) NoSuchName _ _ _ source c.requires.holds c.requires.tracks refl
    (λ bytes. rw (none_of (mark_named (named c.args.run.now.marks.marks) c.args.name) (sym c.if-not-has.true ∙ c.has.ensures)) refl)
    (asks_none _ _ _ _ _ _ refl refl (λ marks bytes. refl) (λ marks bytes. refl))

pub back_to-mark-requires : goal.back_to-mark-requires
back_to-mark-requires g c = sym c.has.ensures ∙ c.if-not-has.false

pub rewind-requires : goal.rewind-requires
rewind-requires g c = (
  omega arith,
  back_accepted _ _ _ c.args.name _ _ c.requires.tracks
      (sym c.back_to-mark.ensures.marks ∙ c.back_to-mark.ensures.newest.1),
)

pub returns-clause-serves : goal.returns-clause-serves
returns-clause-serves g c = λ source.
    let from = sym c.back_to-mark.ensures.marks ∙ c.back_to-mark.ensures.newest.1 in
    let memory = c.rewind.ensures.memory in
    let forgets = rw (c.back_to-mark.ensures.newest.1, c.back_to-mark.ensures.log, memory) at c.forget.ensures in
    rw memory (serves_back _ _ _ _ c.args.name c.back_to-mark.result c.back_to-mark.ensures.newest.0 forgets.from c.requires.holds
    c.requires.tracks from forgets.lets forgets.over _ source (rw memory at c.rewind.ensures.back) forgets.marks forgets.log)
