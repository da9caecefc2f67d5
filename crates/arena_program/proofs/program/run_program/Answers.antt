use Rattle.std.proofs.Common.{refl, inl, inr}
use Rattle.arena_program.proofs.program.run_program.Goals as goal
use Rattle.arena_program.proofs.program.run_program.Goals.{in-Ok+in-Ok-words, in-Ok+in-Err-words, in-Err}

pub returns : goal.returns
returns g c = (
  c.match-args.status,
  c.exit_with.ensures.code,
  elim c.match-args.branch [
    | in-Ok+in-Ok-words w ↦ rw (w.in-Ok.is, w.status-is, w.arena-is, w.chunks-is, w.input-is, w.output-is, w.starved-is)
        (inl (rw (w.as_slice-words.ensures.value, w.in-Ok-words.ensures) at w.serve.ensures))
    | in-Ok+in-Err-words w ↦ rw (w.in-Ok.is, w.status-is, w.arena-is, w.chunks-is, w.input-is, w.output-is, w.starved-is)
        (inr (refl, refl, refl))
    | in-Err w ↦ rw (w.in-Err.is, w.status-is, w.arena-is, w.chunks-is, w.input-is, w.output-is, w.starved-is)
        (w.without_words-status.ensures, refl, refl)
  ],
  c.exit_with.ensures.said,
)
