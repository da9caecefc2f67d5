use Rattle.std.proofs.lemmas.Bool.Decides.{nat_tests}
use Rattle.std.proofs.Common.{arith, ap, ◌∙◌, refl, inr}
use Rattle.std.specs.Option.{is_some}
use Rattle.call_rules.specs.Machine.{step}
use Rattle.call_rules.specs.Requests.{placed_anew}
use Rattle.call_rules.specs.declared.calls.Call.TheVariants.{Alloc}
use Rattle.call_rules.specs.declared.calls.Reply.TheVariants.{AllocErr}
use Rattle.arena_core.proofs.AnswerLemmas.{on_err}
use Rattle.name_map.proofs.EntryLemmas.{get-inserted, insert_again, remove_inserted}
use Rattle.arena_runs.proofs.Log.{notes_still, notes_refused}
use Rattle.arena_runs.proofs.Serving.{none_of, asks_none, serves_still, serves_alloc}
use Rattle.arena_runs.proofs.serve.serve_alloc.Goals as goal

pub returns-then-is_some-clause-serves : goal.returns-then-is_some-clause-serves
unfolding step placed_anew
returns-then-is_some-clause-serves g c =
    let taken = c.if-is_some.ensures ∙ ap is_some c.get.ensures in (
      serves_still _ _ _ _ _ _ c.requires (λ marks bytes held. rw (← taken) refl)
          (asks_none _ _ _ _ _ _ refl refl (λ marks bytes. rw (← taken) refl) (λ marks bytes. refl)),
      notes_still _ _ _ _ (λ q p at. at),
    )

pub returns-in_default-clause-serves : goal.returns-in_default-clause-serves
unfolding step placed_anew
returns-in_default-clause-serves g c =
    let free = c.if-is_some.ensures ∙ ap is_some c.get.ensures in
    let bad = c.in_default.ensures.valid in (
      serves_still _ _ _ _ _ _ c.requires (λ marks bytes held. rw (← free, ← bad) refl)
          (asks_none _ _ _ _ _ _ refl refl (λ marks bytes. rw (← free, ← bad) refl) (λ marks bytes. refl)),
      notes_still _ _ _ _ (λ q p at. at),
    )

pub replace-requires : goal.replace-requires
replace-requires g c = rw (c.in_ok-insert.ensures.ok, get-inserted c.args.run.now.names c.args.wanted.name _) refl

pub returns-in-Ok-clause-serves : goal.returns-in-Ok-clause-serves
returns-in-Ok-clause-serves g c =
    let free = none_of _ (c.if-is_some.ensures ∙ ap is_some c.get.ensures) in
    let value = c.in-Some.ensures.value in
    let served = serves_alloc c.args.arena.now c.alloc_counted.new.self c.fill.new.self c.args.run.now.names c.args.wanted.name
    c.args.wanted.size c.args.wanted.align c.args.fill
    c.in-Ok.refused c.in-Ok.block _ _ c.requires free c.in-Some.ensures.valid (rw (value.0, value.1) at c.in-Ok.ensures) c.fill.ensures in
    rw (c.replace.ensures, c.in_ok-insert.ensures.ok, insert_again, c.at-in-Ok.ensures) (
      served.0,
      record { marks = c.note.ensures.marks; log = λ some. inr (c.args.wanted.name, c.in_ok-note.ensures.log some, served.1) },
    )

pub returns-in-Err-AllocErr-clause-serves : goal.returns-in-Err-AllocErr-clause-serves
unfolding step placed_anew
returns-in-Err-AllocErr-clause-serves g c =
    let free = none_of _ (c.if-is_some.ensures ∙ ap is_some c.get.ensures) in
    let good = c.in-Some.ensures.valid in
    let value = c.in-Some.ensures.value in
    let failed = (rw (value.0, value.1) at (rw c.in-Err-AllocErr.field-0-is at c.in-Err-AllocErr.ensures)).outcome.1 in
    rw (
      c.remove.ensures.rest,
      c.in_ok-insert.ensures.ok,
      remove_inserted c.args.run.now.names c.args.wanted.name _ free,
      failed.memory,
      c.in-Err-AllocErr.field-0-is,
    ) (
      serves_still (Alloc c.args.wanted.name c.args.wanted.size c.args.wanted.align c.args.fill)
          (AllocErr c.in-Err-AllocErr.refused) c.args.arena.now c.args.run.now.names _ _ c.requires
          (λ marks bytes held. rw (free, ← good, failed.step) refl)
          (record { asked = λ marks bytes. rw (free, ← good) failed.asked; statistics = λ marks bytes. refl }),
      notes_refused _ _ _ _ _ c.args.wanted.name c.note.ensures.marks c.in_ok-note.ensures.log c.settle.ensures.marks c.settle.ensures.log,
    )

-- ---- Where memory runs out

pub returns-in_err-insert-clause-wants : goal.returns-in_err-insert-clause-wants
unfolding placed_anew
returns-in_err-insert-clause-wants g c = grind (arith, nat_tests, none_of, on_err)

pub returns-in-Err-OutOfMemory-clause-wants : goal.returns-in-Err-OutOfMemory-clause-wants
unfolding placed_anew
returns-in-Err-OutOfMemory-clause-wants g c = grind (arith, nat_tests, none_of)

pub returns-in_err-note-clause-wants : goal.returns-in_err-note-clause-wants
unfolding placed_anew
returns-in_err-note-clause-wants g c = grind (arith, nat_tests, none_of, on_err)
