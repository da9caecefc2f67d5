use Rattle.std.proofs.Common.{◌∙◌, ap, refl, inr, length}
use Rattle.arena_calls.specs.Streams.{Writes, WritesPart}
use Rattle.arena_calls.proofs.RunLemmas.{unwritten, read_of, printed}
use Rattle.arena_drawing.specs.Ends.{RunsToPicture, picture_of}
use Rattle.arena_drawing.proofs.EndLemmas.{drawn, first_all}
use Rattle.arena_drawing.proofs.picture.draw_lines.Goals as goal

pub returns-in-Err : goal.returns-in-Err
returns-in-Err g c = unwritten RunsToPicture _ _ c.in-Err.status (c.in-Err.ensures.err _ _)

pub returns-in_default : goal.returns-in_default
returns-in_default g c =
    let ran = c.in-Ok.ensures.ok in (
      record { reads = c.in-Ok.ensures.no_fault; writes = refl },
      inr (
        ran.1.calls,
        read_of _ _ _ _ _ _ ran.1,
        record { done = length ran.1.calls; runs = first_all _ _ ran.1.calls _ _ ran.1.runs; written = refl },
      ),
    )

pub returns : goal.returns
returns g c =
    let ran = c.in-Ok.ensures.ok in
    let text = c.as_slice-2.ensures.value ∙ c.in-Ok-picture_of.ensures
    ∙ ap (picture_of c.run_input.new.arena.state) c.as_slice.ensures.value in
    printed RunsToPicture _ _ c.print.result c.as_slice-2.result.now _ _ _ _ ran.1 c.in-Ok.ensures.no_fault
    (λ wrote. drawn _ _ _ _ c.in-Ok.held.items Writes c.as_slice-2.result.now ran.1.runs wrote text)
    (λ wrote. drawn _ _ _ _ c.in-Ok.held.items WritesPart c.as_slice-2.result.now ran.1.runs wrote text) c.print.ensures
