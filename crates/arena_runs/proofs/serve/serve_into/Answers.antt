use Rattle.std.proofs.lemmas.Bool.Decides.{nat_tests}
use Rattle.std.proofs.Common.{refl, arith}
use Rattle.std.proofs.lemmas.Bool.{or_left}
use Rattle.std.proofs.lemmas.Result.{on_err_weaker, on_ok_weaker}
use Rattle.call_rules.specs.Machine.{step}
use Rattle.call_rules.specs.Requests.{placed_anew}
use Rattle.arena_store.specs.Source.{view}
use Rattle.arena_runs.specs.Serving.{ServesRun}
use Rattle.name_map.proofs.EntryLemmas.{less_removed}
use Rattle.arena_runs.proofs.Log.{notes_still}
use Rattle.arena_runs.proofs.Marking.{marks_still, run_served}
use Rattle.arena_runs.proofs.Serving.{asks_none}
use Rattle.arena_runs.proofs.serve.serve_into.Goals as goal
use Rattle.arena_runs.proofs.serve.serve_into.Goals.{in-Alloc+in_ok-reply-in-Alloc, in-Grow+in_ok-reply-in-Grow, in-Shrink+in_ok-reply-in-Shrink, in-Dealloc, in-Write, in-Mark+in_ok-reply-in-Mark, in-Back, in-Reset, in-Used, in-Allocated}

pub returns-in-Read-clause-serves : goal.returns-in-Read-clause-serves
returns-in-Read-clause-serves g c = rw c.in-Read.is
    (on_ok_weaker c.serve_read.result (λ served.
    (served.0, run_served _ _ _ _ _ _ _ _ c.requires.tracks served.1 (notes_still _ _ _ _ (λ q p at. at)), served.2))
    (c.serve_read.ensures.serves _))

pub returns-in-Read-clause-wants : goal.returns-in-Read-clause-wants
unfolding placed_anew
returns-in-Read-clause-wants g c = grind (arith, nat_tests, on_err_weaker, or_left)

pub take-requires : goal.take-requires
take-requires g c =
    grind (arith, nat_tests, in-Alloc+in_ok-reply-in-Alloc, in-Grow+in_ok-reply-in-Grow, in-Shrink+in_ok-reply-in-Shrink, in-Dealloc, in-Write, in-Mark+in_ok-reply-in-Mark, in-Back, in-Reset, in-Used, in-Allocated)

pub returns-clause-serves : goal.returns-clause-serves
unfolding step placed_anew
returns-clause-serves g c = (c.match-call.reply, served, c.take.ensures.taken)
  where
    served : ServesRun c.args.call.now c.match-call.reply (view c.args.arena.now (g.C.ChunkSource.source c.args.chunks.now))
        (view c.match-call.arena (g.C.ChunkSource.source c.match-call.chunks)) c.args.run.now.names c.match-call.run.names
        c.args.run.now.marks c.match-call.run.marks
    served = elim c.match-call.branch [
      | in-Alloc+in_ok-reply-in-Alloc w ↦ rw (w.in-Alloc.is, w.arena-is, w.chunks-is, w.run-is, w.reply-is)
          (run_served _ _ _ _ _ _ _ _ c.requires.tracks w.in_ok-reply-in-Alloc.ensures.serves.0 w.in_ok-reply-in-Alloc.ensures.serves.1)
      | in-Grow+in_ok-reply-in-Grow w ↦ rw (w.in-Grow.is, w.arena-is, w.chunks-is, w.run-is, w.reply-is)
          (run_served _ _ _ _ _ _ _ _ c.requires.tracks w.in_ok-reply-in-Grow.ensures.serves.0 w.in_ok-reply-in-Grow.ensures.serves.1)
      | in-Shrink+in_ok-reply-in-Shrink w ↦ rw (w.in-Shrink.is, w.arena-is, w.chunks-is, w.run-is, w.reply-is)
          (run_served _ _ _ _ _ _ _ _ c.requires.tracks w.in_ok-reply-in-Shrink.ensures.serves.0 w.in_ok-reply-in-Shrink.ensures.serves.1)
      | in-Dealloc w ↦ rw (w.in-Dealloc.is, w.arena-is, w.chunks-is, w.run-is, w.reply-is)
          (run_served _ _ _ _ _ _ _ _ c.requires.tracks (w.serve_dealloc-reply.ensures.serves _)
          (notes_still _ _ _ _ (rw w.serve_dealloc-reply.ensures.names (less_removed c.args.run.now.names w.in-Dealloc.name))))
      | in-Write w ↦ rw (w.in-Write.is, ← w.as_slice.ensures, w.arena-is, w.chunks-is, w.run-is, w.reply-is)
          (run_served _ _ _ _ _ _ _ _ c.requires.tracks (w.serve_write-reply.ensures.serves _) (notes_still _ _ _ _ (λ q p at. at)))
      | in-Mark+in_ok-reply-in-Mark w ↦ rw (w.in-Mark.is, w.arena-is, w.chunks-is, w.run-is, w.reply-is)
          (w.in_ok-reply-in-Mark.ensures.serves _)
      | in-Back w ↦ rw (w.in-Back.is, w.arena-is, w.chunks-is, w.run-is, w.reply-is) (w.serve_back-reply.ensures.serves _)
      | in-Reset w ↦ rw (w.in-Reset.is, w.arena-is, w.chunks-is, w.run-is, w.reply-is) (w.serve_reset-reply.ensures.serves _)
      | in-Used w ↦ rw (w.in-Used.is, w.arena-is, w.chunks-is, w.run-is, w.reply-is, w.used_bytes.ensures.value)
          (marks_still _ _ _ _ _ _ c.requires.holds c.requires.tracks refl (λ bytes. refl)
          (asks_none _ _ _ _ _ _ refl refl (λ marks bytes. refl) (λ marks bytes. refl)))
      | in-Allocated w ↦ rw (w.in-Allocated.is, w.arena-is, w.chunks-is, w.run-is, w.reply-is, w.allocated_bytes.ensures.value)
          (marks_still _ _ _ _ _ _ c.requires.holds c.requires.tracks refl (λ bytes. refl)
          (asks_none _ _ _ _ _ _ refl refl (λ marks bytes. refl) (λ marks bytes. refl)))
    ]
