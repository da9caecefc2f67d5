use Rattle.std.proofs.lemmas.Bool.Decides.{nat_tests}
use Rattle.std.proofs.Common.{◌≡◌, arith, sym, ◌∙◌, refl}
use Rattle.std.specs.Prelude.{◌==◌, ◌&&◌}
use Rattle.std.specs.Option.{is_none}
use Rattle.call_rules.specs.declared.calls.Reply.TheVariants.{NoSuchName, BadLayout, OutOfRange}
use Rattle.arena_core.proofs.AnswerLemmas.{on_err}
use Rattle.arena_runs.proofs.Log.{notes_settled, notes_refused}
use Rattle.arena_runs.proofs.Serving.{readable_at, absent_at, found_at}
use Rattle.arena_runs.proofs.Resizing.{resizing_still, resizing_takes, serves_resized, serves_unresized}
use Rattle.arena_runs.proofs.serve.serve_resize.Goals as goal
use Rattle.arena_runs.proofs.serve.serve_resize.Goals.{then-is_none, else-is_none}

pub returns-in_default-clause-serves : goal.returns-in_default-clause-serves
returns-in_default-clause-serves g c =
    let none = sym c.get.ensures ∙ c.in_default.is in
    resizing_still c.args.fill NoSuchName c.args.arena.now c.args.run.now.names _ _ _ _ _ c.requires refl refl
    (λ marks bytes held. absent_at c.args.arena.now c.args.run.now.names marks bytes c.args.wanted.name _ none) (rw none refl)

pub returns-in_default-new-clause-serves : goal.returns-in_default-new-clause-serves
returns-in_default-new-clause-serves g c =
    let found = sym c.get.ensures ∙ c.in-Some.is in
    let bad = c.in_default-new.ensures.valid in
    resizing_still c.args.fill BadLayout c.args.arena.now c.args.run.now.names _ _ _ _ _ c.requires refl refl
    (λ marks bytes held. found_at c.args.arena.now c.args.run.now.names marks bytes c.args.wanted.name 0 c.in-Some.place _ held found
    ∙ rw (← bad) refl) (rw (found, ← bad) refl)

pub returns-then-is_wrong-clause-serves : goal.returns-then-is_wrong-clause-serves
returns-then-is_wrong-clause-serves g c =
    let found = sym c.get.ensures ∙ c.in-Some.is in
    let good = c.in-Some-new.ensures.valid in
    let wrong = sym c.is_wrong.ensures ∙ c.if-is_wrong.true in
    resizing_still c.args.fill OutOfRange c.args.arena.now c.args.run.now.names _ _ _ _ _ c.requires refl refl
    (λ marks bytes held. found_at c.args.arena.now c.args.run.now.names marks bytes c.args.wanted.name 0 c.in-Some.place _ held found
    ∙ rw (← good, wrong) refl) (rw (found, ← good, wrong) refl)

pub resize-requires : goal.resize-requires
resize-requires g c = grind (arith, nat_tests, readable_at)

pub returns-after-is_none-clause-serves : goal.returns-after-is_none-clause-serves
returns-after-is_none-clause-serves g c =
    let found = sym c.get.ensures ∙ c.in-Some.is in
    let value = c.in-Some-new.ensures.value in
    let right = sym c.is_wrong.ensures ∙ c.if-is_wrong.false in
    let stays : c.if-is_none.settle ≡ (is_none c.args.fill && (c.in-Ok.block.addr == c.in-Some.place.addr)) = elim c.if-is_none.branch [
      | then-is_none w ↦ rw (w.settle-is, w.if-is_none.ensures) refl
      | else-is_none w ↦ rw (w.settle-is, w.if-is_none.false, w.if-is_none.ensures) refl
    ] in
    let served = serves_resized c.args.fill c.args.arena.now c.resize.new.arena c.args.run.now.names c.args.wanted.name _ _
    c.in-Ok.refused c.in-Some.place c.in-Ok.block _ _ c.requires found c.in-Some-new.ensures.valid right
    (rw (value.0, value.1) at c.in-Ok.ensures) in
    rw (c.replace.ensures, c.at.ensures) (
      served.0,
      notes_settled _ _ _ _ _ _ c.args.wanted.name (is_none c.args.fill && (c.in-Ok.block.addr == c.in-Some.place.addr))
          c.note.ensures.marks c.in_ok-note.ensures.log
          c.settle.ensures.marks (rw stays at c.settle.ensures.log) served.1 served.2,
    )

pub returns-in-Err-AllocErr-clause-serves : goal.returns-in-Err-AllocErr-clause-serves
returns-in-Err-AllocErr-clause-serves g c =
    let found = sym c.get.ensures ∙ c.in-Some.is in
    let value = c.in-Some-new.ensures.value in
    let right = sym c.is_wrong.ensures ∙ c.if-is_wrong.false in
    let served = serves_unresized c.args.fill c.args.arena.now c.resize.new.arena c.args.run.now.names c.args.wanted.name _ _
    _ c.in-Err-AllocErr.refused c.in-Some.place _ _ c.requires found c.in-Some-new.ensures.valid right
    (rw (value.0, value.1) at (rw c.in-Err-AllocErr.field-0-is at c.in-Err-AllocErr.ensures)) in
    rw c.in-Err-AllocErr.field-0-is (
      served,
      notes_refused _ _ _ _ _ c.args.wanted.name c.note.ensures.marks c.in_ok-note.ensures.log c.settle-in-Err-AllocErr.ensures.marks
          c.settle-in-Err-AllocErr.ensures.log,
    )

-- ---- Where memory runs out

pub returns-in-Err-OutOfMemory-clause-wants : goal.returns-in-Err-OutOfMemory-clause-wants
returns-in-Err-OutOfMemory-clause-wants g c = grind (arith, nat_tests, resizing_takes)

pub returns-in_err-note-clause-wants : goal.returns-in_err-note-clause-wants
returns-in_err-note-clause-wants g c = grind (arith, nat_tests, on_err, resizing_takes)
