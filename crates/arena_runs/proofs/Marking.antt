-- Marks, and what remains true of them after each call.
use Rattle.std.proofs.lemmas.Bool.Decides.{nat_tests}
use Rattle.std.proofs.Common.{◌≡◌, ◌≢◌, ℕ, ◌+◌, ◌≤◌, inl, inr, ap, refl, sym, subst, ◌∙◌, arith, List, [], ◌∷◌, ◌++◌, Bool, true, false, IsTrue, Some, length, get_or}
use Rattle.std.specs.Option.{is_some}
use Rattle.std.specs.List.{AllByRecursion}
use Rattle.std.specs.FinMap as finite
use Rattle.std.proofs.lemmas.Bool.{cases_eq, cases_lt}
use Rattle.std.proofs.lemmas.List.{length-append, get_or_append_left, get_or_push}
use Rattle.arena_rules.specs.State.{State, IsValid, is_used, is_range_used}
use Rattle.arena_rules.specs.Back.{Point, mark_of, accepts, is_in_part, KeepsMark}
use Rattle.arena_rules.specs.Moves.{reset}
use Rattle.call_rules.specs.Machine.{Held, Contents, mark_named, step, refused_of}
use Rattle.call_rules.specs.Requests.{placed_anew}
use Rattle.arena_rules.specs.Statistics.{uncounted}
use Rattle.arena_rules.specs.declared.place.Place.{Place}
use Rattle.call_rules.specs.declared.calls.Call.{Call}
use Rattle.call_rules.specs.declared.calls.Call.TheVariants.{Mark as SetMark, Reset}
use Rattle.call_rules.specs.declared.calls.Reply.{Reply}
use Rattle.call_rules.specs.declared.calls.Reply.TheVariants.{Done}
use Rattle.arena_rules.proofs.BackLemmas.{is_mark, back_at_once, own_accepted}
use Rattle.arena_rules.proofs.MarkPartLemmas.{left_part, cursor_part}
use Rattle.arena_rules.proofs.ReturnLemmas.{used_filled}
use Rattle.arena_store.specs.Memory.{Memory}
use Rattle.arena_store.specs.Source.{Source, View, view}
use Rattle.arena_core.specs.Checkpoints.{mark_at, checkpoint_of}
use Rattle.arena_runs.specs.Runs.{HoldsBytes}
use Rattle.arena_runs.specs.Marks.{Noted, named, IsNoted, Lies, TracksMark, IsOlder, AreTracked, Tracks, KeepEntry, AreWithin, IsAtCursor, Notes}
use Rattle.arena_runs.specs.Serving.{machine_of, Holds, Asks, Serves, ServesRun}
use Rattle.arena_runs.specs.declared.marks.Mark.{Mark}
use Rattle.arena_store.proofs.AskedLemmas.{asked_none}
use Rattle.arena_runs.proofs.Serving.{holds_none, no_bytes_held}
use Rattle.arena_runs.proofs.Log.{not_both}

-- ---- A call other than one on a mark

-- whether a block is in a mark's part doesn't change, if the name's place begins where one did that it held
pub lay : (inside : Bool) (old new : State) (names held : Held) (m : Mark) (q : ℕ) → KeepsMark (mark_at m.checkpoint) old new
    → ((p : Place) → finite.get held q ≡ Some p → (before : Place) × (finite.get names q ≡ Some before) × (before.addr ≡ p.addr)
    × (p.size ≤ before.size)) → Lies inside new held m q
    → Lies inside old names m q
lay inside old new names held m q kept was lies = grind (arith, nat_tests)

module _ (old new : State) (names held : Held) (log : List ℕ) (m : Mark) (kept : KeepsMark (mark_at m.checkpoint) old new)
    (tracked : TracksMark old names log m) where
  -- no block was placed
  mark_within : AreWithin names held → TracksMark new held log m
  mark_within within = record {
    generation = tracked.generation ∙ sym kept.generation;
    accepted = kept.accepted;
    noted = λ q lost. tracked.noted q (lay false old new names held m q kept (within q) lost);
    behind = λ i below stays q lost.
        tracked.behind i below (lay true old new names held m (get_or log i 0) kept (within (get_or log i 0)) stays) q
        (lay false old new names held m q kept (within q) lost);
  }

  -- one was placed at the cursor
  mark_placed : (name : ℕ) → Holds new held → IsAtCursor new names held name → TracksMark new held (log ++ name ∷ []) m
  mark_placed name holds there = record {
    generation = tracked.generation ∙ sym kept.generation;
    accepted = kept.accepted;
    noted = λ q lost. elim (cases_eq q name) [
      | inl same ↦ last 0 q (omega arith) same
      | inr other ↦ longer 0 q (tracked.noted q (lost_before q other lost))
    ];
    behind = λ i below stays q lost. elim (cases_lt i (length log)) [
      | inr past ↦ absurd (none_lost (subst (Lies true new held m) (top i (omega (arith, below, more))) stays) q lost)
      | inl here ↦
          let entry = get_or_append_left log (name ∷ []) 0 i here in
          let own = subst (Lies true new held m) entry stays in
          elim (cases_eq (get_or log i 0) name) [
            | inl same ↦ absurd (none_lost (subst (Lies true new held m) same own) q lost)
            | inr differs ↦ elim (cases_eq q name) [
              | inl same ↦ last (i + 1) q (omega arith) same
              | inr other ↦ longer (i + 1) q (tracked.behind i here
                  (lay true old new names held m (get_or log i 0) kept (still (get_or log i 0) differs) own) q (lost_before q other lost))
            ]
          ]
    ];
  }
    where
      more : length (log ++ name ∷ []) ≡ length log + 1
      more = length-append log (name ∷ [])

      top : (i : ℕ) → i ≡ length log → get_or (log ++ name ∷ []) i 0 ≡ name
      top i is = get_or_push log name 0 i (sym is)

      last : (from q : ℕ) → from ≤ length log → q ≡ name → IsNoted (log ++ name ∷ []) from q
      last from q low same = (length log, low, omega (arith, more), top (length log) refl ∙ sym same)

      longer : (from q : ℕ) → IsNoted log from q → IsNoted (log ++ name ∷ []) from q
      longer from q noted = (noted.0, noted.1, omega (arith, noted.2, more), get_or_append_left log (name ∷ []) 0 noted.0 noted.2 ∙ noted.3)

      still : (q : ℕ) → q ≢ name → (p : Place) → finite.get held q ≡ Some p → (before : Place) × (finite.get names q ≡ Some before)
          × (before.addr ≡ p.addr) × (p.size ≤ before.size)
      still q other p at = (p, sym (there.rest q other) ∙ at, refl, omega arith)

      lost_before : (q : ℕ) → q ≢ name → Lies false new held m q → Lies false old names m q
      lost_before q other lost = lay false old new names held m q kept (still q other) lost

      none_lost : Lies true new held m name → (q : ℕ) → Lies false new held m q → ⊥
      none_lost own q lost =
          let p : Place = lost.0 in
          let used = used_filled new p lost.2 (holds.each q p lost.1).used in
          let cursor = ap (is_in_part (mark_at m.checkpoint) new) (sym (there.own own.0 own.1 own.2)) ∙ own.3 in
          not_both (is_in_part (mark_at m.checkpoint) new p.addr)
          (cursor_part (mark_at m.checkpoint) new p.addr p.size holds.valid lost.2 used cursor) lost.3

pub tracks_served : (old new : State) (names held : Held) (noted later : Noted)
    → ((mark : Point) → IsTrue (accepts mark old) → KeepsMark mark old new)
    → Holds new held → Notes new names held noted later → Tracks old names noted → Tracks new held later
tracks_served old new names held noted later kept holds notes tracks =
    subst (AreTracked new held later.log) (sym notes.marks) (go noted.marks (omega arith) tracks)
  where
    go : (marks : List Mark) → length marks ≤ length noted.marks → AreTracked old names noted.log marks
        → AreTracked new held later.log marks
    go [] few tracked = tt
    go (m ∷ older) few tracked =
        let here = kept (mark_at m.checkpoint) tracked.0.accepted in (
          elim (notes.log (omega arith)) [
            | inl still ↦ subst (λ (l : List ℕ). TracksMark new held l m) (sym still.0)
                (mark_within old new names held noted.log m here tracked.0 still.1)
            | inr placed ↦ subst (λ (l : List ℕ). TracksMark new held l m) (sym placed.1)
                (mark_placed old new names held noted.log m here tracked.0 placed.0 holds placed.2)
          ],
          tracked.1,
          go older (omega arith) tracked.2,
        )

entry_served : (entry old new : State) (names : Held) (log : List ℕ) (marks : List Mark)
    → ((mark : Point) → IsTrue (accepts mark old) → KeepsMark mark old new)
    → ((addr : ℕ) → IsTrue (is_used entry addr) → IsTrue (is_used new addr)) → AreTracked old names log marks → KeepEntry entry old marks
    → KeepEntry entry new marks
entry_served entry old new names log [] kept used tracked keep = tt
entry_served entry old new names log (m ∷ older) kept used tracked keep = (
  λ addr in_use. (kept (mark_at m.checkpoint) tracked.0.accepted).used addr 1 (used addr in_use) (keep.0 addr in_use),
  entry_served entry old new names log older kept used tracked.2 keep.1,
)

pub run_served : (call : Call) (reply : Reply) (old new : View) (names held : Held) (noted later : Noted)
    → Tracks old.memory.state names noted
    → Serves call reply old new names held → Notes new.memory.state names held noted later
    → ServesRun call reply old new names held noted later
run_served call reply old new names held noted later tracks serves notes = record {
  steps = λ bytes holds. subst (λ (l : List Mark). (next : Contents)
      × (step call (refused_of reply) (machine_of old.memory names (named noted.marks) bytes)
      ≡ Some (reply, machine_of new.memory held (named l) next)) × HoldsBytes new.memory held next)
      (sym notes.marks) (serves.steps (named noted.marks) bytes holds);
  asks = serves.asks;
  holds = serves.holds;
  tracks = tracks_served old.memory.state new.memory.state names held noted later serves.marks serves.holds notes tracks;
  keeps = λ still entry keeps keep.
      let kept = serves.keeps entry keeps in (
        kept,
        subst (KeepEntry entry.state new.memory.state) (sym notes.marks)
            (entry_served entry.state old.memory.state new.memory.state names noted.log noted.marks serves.marks kept.kept.used tracks
            keep),
      );
}

-- ---- One more mark

under_own : (state : State) (names : Held) (log : List ℕ) (marks : List Mark) (m : Mark) → m.checkpoint ≡ checkpoint_of state
    → AreTracked state names log marks
    → AllByRecursion (IsOlder m) marks
under_own state names log [] m is tracked = tt
under_own state names log (o ∷ older) m is tracked = (
  rw is (is_mark (mark_at o.checkpoint) state tracked.0.accepted).within,
  under_own state names log older m is tracked.2,
)

pub tracks_own : (state : State) (names : Held) (noted : Noted) (name : ℕ) → Holds state names → Tracks state names noted
    → Tracks state names (record { marks = record { name = name; checkpoint = checkpoint_of state } ∷ noted.marks; log = noted.log })
tracks_own state names noted name holds tracks = (
  record {
    generation = refl;
    accepted = own_accepted state holds.valid;
    noted = λ q lost. absurd (none_lost q lost);
    behind = λ i below stays q lost. absurd (none_lost q lost);
  },
  under_own state names noted.log noted.marks own refl tracks,
  tracks,
)
  where
    own : Mark
    own = record { name = name; checkpoint = checkpoint_of state }

    none_lost : (q : ℕ) → Lies false state names own q → ⊥
    none_lost q lost =
        let p : Place = lost.0 in
        let used = used_filled state p lost.2 (holds.each q p lost.1).used in
        not_both (is_in_part (mark_of state) state p.addr)
        (left_part (mark_of state) state p.addr p.size holds.valid lost.2
        (subst (λ (s : State). IsTrue (is_range_used s.chunks p.addr p.size)) (sym (back_at_once state)) used)) lost.3

-- a call on marks that changes nothing
pub marks_still : (call : Call) (reply : Reply) (memory : Memory) (names : Held) (noted : Noted) (source : Source)
    → Holds memory.state names → Tracks memory.state names noted
    → refused_of reply ≡ 0 → ((bytes : Contents)
    → step call (refused_of reply) (machine_of memory names (named noted.marks) bytes)
    ≡ Some (reply, machine_of memory names (named noted.marks) bytes))
    → Asks call reply (view memory source) (view memory source) names
    → ServesRun call reply (view memory source) (view memory source) names names noted noted
marks_still call reply memory names noted source holds tracks none steps asks = record {
  steps = λ bytes held. (bytes, steps bytes, held);
  asks = asks;
  holds = holds;
  tracks = tracks;
  keeps = λ still entry keeps keep. (keeps, keep);
}

pub serves_mark : (memory : Memory) (names : Held) (noted later : Noted) (name : ℕ) (source : Source) → Holds memory.state names
    → Tracks memory.state names noted
    → is_some (mark_named (named noted.marks) name) ≡ false
    → later ≡ record { marks = record { name = name; checkpoint = checkpoint_of memory.state } ∷ noted.marks; log = noted.log }
    → ServesRun (SetMark name) Done (view memory source) (view memory source) names names noted later
unfolding step placed_anew
serves_mark memory names noted later name source holds tracks free is = record {
  steps = λ bytes held. (bytes, rw (free, is) refl, held);
  asks = record { asked = λ marks bytes. asked_none source; statistics = λ marks bytes. refl };
  holds = holds;
  tracks = rw is (tracks_own memory.state names noted name holds tracks);
  keeps = λ still entry keeps keep. (
    keeps,
    rw is (
      λ addr in_use. subst (λ (s : State). IsTrue (is_used s addr)) (sym (back_at_once memory.state)) (keeps.kept.used addr in_use),
      keep,
    ),
  );
}

-- ---- All marks end

pub serves_reset_run : (old new : Memory) (names : Held) (noted : Noted) (source : Source) → new.state ≡ reset old.state
    → new.statistics ≡ uncounted → IsValid new.state
    → ServesRun Reset Done (view old source) (view new source) names finite.empty noted (record { marks = []; log = [] })
unfolding step placed_anew
serves_reset_run old new names noted source same statistics valid = record {
  steps = λ bytes held. (finite.empty, rw same refl, no_bytes_held new finite.empty);
  asks = record { asked = λ marks bytes. asked_none source; statistics = λ marks bytes. statistics };
  holds = holds_none new.state valid;
  tracks = tt;
  keeps = λ kept. absurd (cc);
}
