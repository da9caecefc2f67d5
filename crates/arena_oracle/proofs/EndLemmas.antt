-- How runs over a new arena end.
use Rattle.std.proofs.Common.{◌≡◌, ℕ, ◌+◌, ◌<◌, ◌≤◌, false, List, [], length, take, drop, Option, Some, Result, Ok, Err, refl, sym, subst, arith, inl, inr, take-append-drop, append-nil, length-take-le}
use Rattle.std.specs.Prelude.{IfOk, IfErr}
use Rattle.call_rules.specs.Generator.{gen_calls}
use Rattle.call_rules.specs.Grammar.{CallsOf}
use Rattle.call_rules.specs.Replies.{text_of}
use Rattle.call_rules.specs.declared.calls.Call.{Call}
use Rattle.call_rules.specs.declared.calls.Reply.{Reply}
use Rattle.arena_store.specs.Memory.{Memory}
use Rattle.arena_store.specs.Source.{Source, View, view}
use Rattle.arena_store.specs.declared.block.Block.{Block}
use Rattle.arena_runs.specs.Runs.{Runs}
use Rattle.arena_calls.specs.Ends.{Outside, RunsInput, RunsTo, Ends, outside, reply_lines, summary_lines}
use Rattle.arena_calls.specs.ReadAll.{limit}
use Rattle.arena_calls.specs.declared.status.Status.{Status}
use Rattle.arena_calls.specs.declared.status.Status.TheVariants as status
use Rattle.arena_calls.proofs.RunLemmas.{unwritten, read_of}
use Rattle.arena_drawing.specs.Ends.{Draws, RunsToPicture, picture_of}
use Rattle.arena_drawing.proofs.EndLemmas.{first_all, placed}
use Rattle.arena_oracle.specs.Limits.{KeepsThose, limited}
use Rattle.arena_oracle.specs.Sources.{StopsEarly}
use Rattle.arena_oracle.specs.Answers.{Ending, Within, CallsWithin, DrawsWithin, GenWithin, YieldsWithin, YieldsNothing, new_arena, is_done}

-- ---- Nothing is written

-- there are more bytes than lines may have
pub too_long : (lines : List ℕ) (arena : View) → limit < length lines → YieldsNothing status.InputTooLong lines arena arena
too_long lines arena long = (
  Some (drop (limit + 1) lines),
  (
    record { reads = refl; writes = refl },
    (
      record { arena = refl; written = refl },
      (take (limit + 1) lines, sym (take-append-drop (limit + 1) lines), length-take-le (limit + 1) lines (omega (arith, long))),
    ),
  ),
)

-- memory ran out before the first call
pub no_memory : (lines : List ℕ) (arena : View) → length lines ≤ limit → YieldsNothing status.OutOfMemory lines arena arena
no_memory lines arena small = (
  Some [],
  (
    record { reads = refl; writes = refl },
    inl (record {
      untouched = record { arena = refl; written = refl };
      front = (lines, sym (append-nil lines), small);
    }),
  ),
)

-- memory ran out before the first call, or in the run
pub stopped : (lines : List ℕ) (entry exit : View) (calls read : List Call) → calls ≡ read → length lines ≤ limit → CallsOf lines (Ok read)
    → StopsEarly entry exit calls → YieldsNothing status.OutOfMemory lines entry exit
stopped lines entry exit calls read same small are stops = elim stops [
  | inl none ↦ rw none (no_memory lines entry small)
  | inr first ↦ (
    Some [],
    (
      record { reads = refl; writes = refl },
      inr (
        read,
        record { bytes = lines; whole = record { told = (refl, refl); small = small }; lines = are },
        record { done = first.0; runs = rw same at first.1; written = refl },
      ),
    ),
  )
]

pub ruleset stop_laws = (too_long, no_memory)

-- or after it
pub stopped_after : (lines : List ℕ) (entry exit : View) (replies : List Reply) (held : List (ℕ × Block))
    → RunsInput (Some lines) (Some []) entry exit replies held → YieldsNothing status.OutOfMemory lines entry exit
stopped_after lines entry exit replies held run =
    stopped lines entry exit run.calls run.calls refl (rw run.told.0 at run.small) (rw run.told.0 at run.lines)
    (inr (length run.calls, first_all entry exit run.calls replies held run.runs))

-- a run that isn't done says no more
undone : (Is : Ending) (Kept : (old new : Outside) → Is status.Done old new → Type 0) (end : Status) (old new : Outside) → is_done end ≡ false
    → Is end old new → Within Is Kept end old new
undone Is Kept status.Done old new other ends = cc
undone Is Kept end old new other ends = ends

-- over a new arena
pub over_new : (Is : ℕ → List ℕ → Ending) (lines : List ℕ) (before after : Source) (entry exit : Memory) (end : Status)
    (left : Option (List ℕ)) (text : List ℕ) → entry ≡ (new_arena before).memory
    → ((budget : ℕ) (refuse : List ℕ) → before ≡ limited budget refuse → Is budget refuse end
    (outside (Some lines) 0 (Some []) 0 (view entry before)) (outside left 0 (Some text) 0 (view exit after)))
    → YieldsWithin Is lines before after end text
over_new Is lines before after entry exit end left text new ends budget refuse limits = record {
  left = left;
  memory = exit;
  ends = subst (λ (m : Memory). Is budget refuse end (outside (Some lines) 0 (Some []) 0 (view m before))
      (outside left 0 (Some text) 0 (view exit after))) new (ends budget refuse limits);
}

module _ (lines : List ℕ) (before after : Source) (entry exit : Memory) (new : entry ≡ (new_arena before).memory) where
  pub no_text : (end : Status) → is_done end ≡ false → YieldsNothing end lines (view entry before) (view exit after)
      → YieldsWithin CallsWithin lines before after end []
  no_text end other none = over_new CallsWithin lines before after entry exit end none.0 [] new
      (λ budget refuse is. undone Ends _ end _ _ other (unwritten (λ old new calls. RunsTo old new calls reply_lines) _ _ end none.1))

  pub picture_or : {T : Type 0} (items : T → List ℕ) (result : Result T Status) → ((budget : ℕ) (refuse : List ℕ)
      → before ≡ limited budget refuse → IfOk result (λ text. DrawsWithin budget refuse status.Done
      (outside (Some lines) 0 (Some []) 0 (view entry before)) (outside (Some []) 0 (Some (items text)) 0 (view exit after))))
      → IfOk result (λ text. YieldsWithin DrawsWithin lines before after status.Done (items text))
  picture_or items (Ok text) drawn = over_new DrawsWithin lines before after entry exit status.Done (Some []) (items text) new drawn
  picture_or items (Err end) drawn = tt

  pub no_picture : {T : Type 0} (result : Result T Status)
      → IfErr result (λ end. YieldsNothing end lines (view entry before) (view exit after))
      → IfErr result (λ end. is_done end ≡ false) → IfErr result (λ end. YieldsWithin DrawsWithin lines before after end [])
  no_picture (Ok text) none other = tt
  no_picture (Err end) none other = over_new DrawsWithin lines before after entry exit end none.0 [] new
      (λ budget refuse is. undone Draws _ end _ _ other (unwritten RunsToPicture _ _ end none.1))

-- ---- The lines were run

-- these lines are calls, and they were run within the limits
pub ran_lines : (lines : List ℕ) (entry exit : View) (calls read : List Call) (replies : List Reply) (held : List (ℕ × Block))
    (Taken : List Reply → Type 0) → calls ≡ read → length lines ≤ limit → CallsOf lines (Ok read) → Runs entry exit calls replies held
    → KeepsThose entry.source entry.memory.state calls replies → Taken replies
    → (list : List Reply) × (run : RunsInput (Some lines) (Some []) entry exit list held)
    × KeepsThose entry.source entry.memory.state run.calls list × Taken list
ran_lines lines entry exit calls read replies held Taken same small are runs keeps taken = (
  replies,
  record {
    bytes = lines;
    told = (refl, refl);
    small = small;
    calls = read;
    lines = are;
    runs = subst (λ (cs : List Call). Runs entry exit cs replies held) same runs;
  },
  subst (λ (cs : List Call). KeepsThose entry.source entry.memory.state cs replies) same keeps,
  taken,
)

-- a run that is done
module _ (lines : List ℕ) (entry exit : View) (replies : List Reply) (held : List (ℕ × Block)) (text : List ℕ)
    (run : RunsInput (Some lines) (Some []) entry exit replies held) (keeps : KeepsThose entry.source entry.memory.state run.calls replies)
  where
    -- of which this is the text
    pub done : text ≡ text_of replies → (budget : ℕ) (refuse : List ℕ) → entry.source ≡ limited budget refuse
        → CallsWithin budget refuse status.Done (outside (Some lines) 0 (Some []) 0 entry) (outside (Some []) 0 (Some text) 0 exit)
    done same budget refuse limits = (
      (
        record { reads = refl; writes = refl },
        (
          run.calls,
          read_of _ _ entry exit replies held run,
          record { replies = replies; blocks = held; runs = run.runs; written = rw (← same) refl },
        ),
      ),
      keeps budget refuse limits,
    )

    -- or the picture
    pub pictured : text ≡ picture_of exit.memory.state held → (budget : ℕ) (refuse : List ℕ) → entry.source ≡ limited budget refuse
        → DrawsWithin budget refuse status.Done (outside (Some lines) 0 (Some []) 0 entry) (outside (Some []) 0 (Some text) 0 exit)
    pictured same budget refuse limits = (
      (
        record { reads = refl; writes = refl },
        (
          run.calls,
          read_of _ _ entry exit replies held run,
          record {
            replies = replies;
            held = held;
            runs = run.runs;
            written = rw (← same) refl;
            placed = placed entry exit run.calls replies held run.runs;
          },
        ),
      ),
      keeps budget refuse limits,
    )

-- ---- Calls from a number, over a new arena

module _ (start count : ℕ) (before after : Source) (entry exit : Memory) (new : entry ≡ (new_arena before).memory) where
  pub generated : (replies : List Reply) (held : List (ℕ × Block)) (text : List ℕ)
      → Runs (view entry before) (view exit after) (gen_calls start count) replies held
      → KeepsThose before entry.state (gen_calls start count) replies → text ≡ summary_lines replies exit.state
      → YieldsWithin (GenWithin start count) [] before after status.Done text
  generated replies held text runs keeps same = over_new (GenWithin start count) [] before after entry exit status.Done (Some []) text new
      (λ budget refuse limits. (
        (
          record { reads = refl; writes = refl },
          refl,
          record { replies = replies; blocks = held; runs = runs; written = rw (← same) refl },
        ),
        keeps budget refuse limits,
      ))

  -- memory ran out
  pub not_generated : StopsEarly (view entry before) (view exit after) (gen_calls start count)
      → YieldsWithin (GenWithin start count) [] before after status.OutOfMemory []
  not_generated stops = over_new (GenWithin start count) [] before after entry exit status.OutOfMemory (Some []) [] new
      (λ budget refuse limits. (
        record { reads = refl; writes = refl },
        refl,
        elim stops [
          | inl same ↦ inl (record { arena = same; written = refl })
          | inr first ↦ inr (record { done = first.0; runs = first.1; written = refl })
        ],
      ))
