-- The state of a run of calls over an arena, call by call.
use Rattle.std.proofs.lemmas.Bool.Decides.{nat_tests}
use Rattle.std.proofs.Common.{◌≡◌, ℕ, ◌+◌, ◌<◌, ◌≤◌, ap, refl, sym, subst, ◌∙◌, arith, List, [], ◌∷◌, ◌++◌, false, IsTrue, Option, Some, length, take, take_all, sum, append_assoc, append-nil}
use Rattle.std.specs.Prelude.{slice_get}
use Rattle.std.specs.Option.{option_map}
use Rattle.std.specs.List.{list_any}
use Rattle.std.specs.FinMap as finite
use Rattle.std.proofs.lemmas.Bool.{or_parts}
use Rattle.std.proofs.lemmas.Grind.{common_steps}
use Rattle.std.proofs.lemmas.List.{map-append}
use Rattle.std.proofs.lemmas.List.Folds.{list_any-append}
use Rattle.std.proofs.lemmas.Option.{same_Some, none-some, option_and_then_some, slice_get_within}
use Rattle.arena_rules.specs.State.{IsValid}
use Rattle.call_rules.specs.Machine.{Machine, Held, step, run_from, fresh, reply_first, refused_of, told, is_reset}
use Rattle.call_rules.specs.Requests.{call_requests, requests_from, takes_memory}
use Rattle.arena_rules.specs.Statistics.{Statistics}
use Rattle.call_rules.specs.Counts.{call_statistics, statistics_from}
use Rattle.call_rules.specs.declared.calls.Call.{Call}
use Rattle.call_rules.specs.declared.calls.Reply.{Reply}
use Rattle.call_rules.proofs.DoublingRunLemmas.{run_doubling}
use Rattle.arena_store.specs.Source.{View}
use Rattle.arena_runs.specs.Runs.{StandsFor, RunLeaves, Runs, RunsFirst, held_blocks}
use Rattle.arena_runs.specs.Serving.{machine_of, ServesRun, Wants}
use Rattle.arena_runs.specs.Running.{IsRunning, StaysAt, StaysBehind}
use Rattle.arena_runs.specs.Marks.{Noted, named}
use Rattle.arena_store.specs.declared.block.Block.{Block}
use Rattle.arena_store.proofs.AskedLemmas.{asked_none, asked_more}
use Rattle.arena_runs.proofs.Serving.{holds_none, no_bytes_held, none_kept}

mapped : {A B P : Type 0} (f : A → B) → (o : Option A) (y : B) → option_map f o ≡ Some y → ((x : A) → o ≡ Some x → f x ≡ y → P) → P
mapped f o y is go = grind (arith, nat_tests, none-some, same_Some)

-- A run continues by one step, and asks for what that call asks for.
run_more : (m mid next : Machine) (calls : List Call) (call : Call) (ks : List ℕ) (k : ℕ) (replies : List Reply) (reply : Reply)
    → run_from m calls ks ≡ Some (replies, mid) → step call k mid ≡ Some (reply, next)
    → (run_from m (calls ++ call ∷ []) (ks ++ k ∷ []) ≡ Some (replies ++ reply ∷ [], next))
    × (requests_from m (calls ++ call ∷ []) (ks ++ k ∷ []) ≡ requests_from m calls ks ++ call_requests call k mid)
    × ((s : Statistics) → statistics_from m (calls ++ call ∷ []) (ks ++ k ∷ []) s ≡ call_statistics call reply mid
    (statistics_from m calls ks s))
unfolding run_from requests_from statistics_from
run_more m mid next [] call [] k replies reply ran stepped =
    let same = same_Some {A = List Reply × Machine} ([], m) (replies, mid) ran in
    let none : [] ≡ replies = ap (λ (p : List Reply × Machine). p.0) same in
    let here : m ≡ mid = ap (λ (p : List Reply × Machine). p.1) same in
    (rw (here, stepped, ← none) refl, rw (here, stepped) (append-nil (call_requests call k mid)), λ s. rw (here, stepped) refl)
run_more m mid next [] call (j ∷ ks) k replies reply ran stepped = cc
run_more m mid next (c ∷ calls) call [] k replies reply ran stepped = cc
run_more m mid next (c ∷ calls) call (j ∷ ks) k replies reply ran stepped =
    option_and_then_some _ (step c j m) (replies, mid) ran (λ first is rest.
    mapped (reply_first first.0) (run_from first.1 calls ks) (replies, mid) rest (λ tail at same.
    let there = at ∙ ap (λ (p : List Reply × Machine). Some (tail.0, p.1)) same in
    let on = run_more first.1 mid next calls call ks k tail.0 reply there stepped in (
      rw (is, on.0) (ap (λ (p : List Reply × Machine). Some (p.0 ++ reply ∷ [], next)) same),
      rw (is, on.1) (sym (append_assoc (call_requests c j m) (requests_from first.1 calls ks) (call_requests call k mid))),
      λ s. rw is (on.2 (call_statistics c first.0 m s)),
    )))

pub running_first : (now : View) → IsValid now.memory.state → IsRunning now now finite.empty (record { marks = []; log = [] }) [] []
unfolding run_from requests_from statistics_from
running_first now valid = record {
  bytes = finite.empty;
  ran = refl;
  held = no_bytes_held now.memory finite.empty;
  holds = holds_none now.memory.state valid;
  asked = asked_none now.source;
  statistics = refl;
  tracks = tt;
  keeps = λ kept. (none_kept now.memory, tt);
}

pub running_more : (entry old new : View) (names others : Held) (noted later : Noted) (calls : List Call) (call : Call)
    (replies : List Reply) (reply : Reply)
    → IsRunning entry old names noted calls replies → ServesRun call reply old new names others noted later
    → IsRunning entry new others later (calls ++ call ∷ []) (replies ++ reply ∷ [])
running_more entry old new names others noted later calls call replies reply running serves =
    let stepped = serves.steps running.bytes running.held in
    let k : ℕ = refused_of reply in
    let more = run_more (fresh entry.memory.state) (machine_of old.memory names (named noted.marks) running.bytes)
    (machine_of new.memory others (named later.marks) stepped.0) calls call (told replies) k replies reply running.ran stepped.1 in
    let total : sum (told replies ++ k ∷ []) ≡ sum (told replies) + k = grind (arith, common_steps) in
    let telling : told (replies ++ reply ∷ []) ≡ told replies ++ k ∷ [] = map-append refused_of replies (reply ∷ []) in
    record {
      bytes = stepped.0;
      ran = rw telling more.0;
      held = stepped.2;
      holds = serves.holds;
      tracks = serves.tracks;
      asked = rw (telling, total, more.1)
          (asked_more entry.source old.source new.source (sum (told replies)) k _ _ running.asked
          (serves.asks.asked (named noted.marks) running.bytes));
      statistics = rw (telling, more.2 entry.memory.statistics, ← running.statistics)
          (serves.asks.statistics (named noted.marks) running.bytes);
      keeps = λ kept.
          let none = or_parts (list_any is_reset calls) _ (sym (list_any-append is_reset calls (call ∷ [])) ∙ kept) in
          let before = running.keeps none.0 in serves.keeps (or_parts (is_reset call) false none.1).0 entry.memory before.0 before.1;
    }

-- the machine of the arena and its names, and what else is true of the run
module _ (entry now : View) (names : Held) (noted : Noted) (calls : List Call) (replies : List Reply)
    (running : IsRunning entry now names noted calls replies) where
  stands : StandsFor now.memory (machine_of now.memory names (named noted.marks) running.bytes)
  stands = record {
    state = refl;
    valid = running.holds.valid;
    sound = record {
      aligned = λ q p at. (running.holds.each q p at).aligned;
      used = λ q p at. (running.holds.each q p at).used;
      apart = running.holds.apart;
    };
    bytes = running.held;
  }

  leaves : RunLeaves entry now calls (told replies)
  leaves = record {
    asked = running.asked;
    statistics = running.statistics;
    kept = λ kept. (running.keeps kept).0.kept;
    doubling = λ least small made double. run_doubling least (fresh entry.memory.state) calls
        (told replies) replies _ small double running.ran made;
  }

  pub running_over : (blocks : List (ℕ × Block)) → blocks ≡ held_blocks now.memory.state.generation names
      → Runs entry now calls replies blocks
  running_over blocks held = record {
    last = machine_of now.memory names (named noted.marks) running.bytes;
    ran = running.ran;
    stands = stands;
    held = held;
    leaves = leaves;
  }

-- The next call, or what is made of the replies, finds no memory: before the first call, at one that takes memory, or
-- after the last.
pub running_stopped : (entry now : View) (names : Held) (noted : Noted) (calls : List Call) (done : ℕ) (replies : List Reply)
    → done ≤ length calls
    → (running : IsRunning entry now names noted (take done calls) replies)
    → ((call : Call) → 0 < done → slice_get calls done ≡ Some call
    → IsTrue (takes_memory call (machine_of now.memory names (named noted.marks) running.bytes)))
    → (first : RunsFirst entry now calls done) × (first.replies ≡ replies)
running_stopped entry now names noted calls done replies within running stops = (
  record {
    within = within;
    replies = replies;
    last = machine_of now.memory names (named noted.marks) running.bytes;
    ran = running.ran;
    stands = stands entry now names noted (take done calls) replies running;
    leaves = leaves entry now names noted (take done calls) replies running;
    stops = stops;
  },
  refl,
)

pub stays_at : (call : Call) (old new : View) (names : Held) (noted : Noted) → Wants call old new names (named noted.marks)
    → StaysAt call old new names noted
stays_at call old new names noted wants = λ entry calls done replies running at. rw wants.same
    (running_stopped entry old names noted calls done replies (omega (arith, slice_get_within calls done call at)) running
    (λ other some is. subst (λ (c : Call). IsTrue (takes_memory c (machine_of old.memory names (named noted.marks) running.bytes)))
    (same_Some call other (sym at ∙ is)) (wants.takes running.bytes)))

pub stays_behind : (now : View) (names : Held) (noted : Noted) → StaysBehind now names noted
stays_behind now names noted = λ entry calls replies running.
    running_stopped entry now names noted calls (length calls) replies (omega arith)
    (rw (take_all (length calls) calls (omega arith)) running)
    (λ call some at. absurd (omega (arith, slice_get_within calls (length calls) call at)))
