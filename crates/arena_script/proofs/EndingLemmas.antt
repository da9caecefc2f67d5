-- How a run ends.
use Rattle.std.proofs.lemmas.Bool.Decides.{nat_tests}
use Rattle.std.proofs.Common.{◌≡◌, ℕ, ◌+◌, ◌*◌, ◌≤◌, ◌<◌, refl, sym, ap, ◌∙◌, subst, arith, inl, inr, Bool, true, false, Option, Some, Err, get_or, add-one, List, [], ◌∷◌, ◌++◌, length, take, length-take, slice_get}
use Rattle.std.specs.Prelude.{if◌then◌else◌, ◌≢◌, IsSomeAnd}
use Rattle.std.proofs.Math.Seq.{take-length, take-suc}
use Rattle.std.proofs.lemmas.Option.{slice_get-get_or, slice_get_past}
use Rattle.arena_rules.proofs.AskingLemmas.{asks_more}
use Rattle.arena_chunks.specs.Memory.{Memory}
use Rattle.arena_chunks.specs.Source.{View}
use Rattle.arena_chunks.specs.Asking.{AsksWithin, IsFull}
use Rattle.arena_chunks.proofs.Layers.{asks_same}
use Rattle.arena_hash.specs.Maps.{IsMapIn}
use Rattle.arena_hash.specs.declared.map.HashMap.{HashMap}
use Rattle.hash_ring.specs.declared.hasher.FxHasher.{FxHasher}
use Rattle.arena_items.specs.declared.room.AllocError.{AllocError}
use Rattle.arena_items.specs.declared.room.AllocError.TheVariants.{AllocErr}
use Rattle.script_rules.specs.Objects.{get, need, Object, Objects}
use Rattle.script_rules.specs.Effects.{effect}
use Rattle.script_rules.specs.Machine.{run, run_from, cost_of, cost_of_first}
use Rattle.arena_rules.specs.Asking.{IsStarvedWithin}
use Rattle.script_rules.specs.declared.commands.Command.{Command}
use Rattle.script_rules.specs.declared.commands.Ended.{Ended}
use Rattle.script_rules.specs.declared.commands.Ended.TheVariants.{Done, Full, Refused, OutOfMemory}
use Rattle.script_rules.specs.declared.commands.ScriptReply.{ScriptReply}
use Rattle.script_rules.specs.declared.outcome.Outcome.{Outcome}
use Rattle.script_rules.proofs.RunLemmas.{first_cost, first_replies, reply_count, cost_rises}
use Rattle.arena_script.specs.Kinds.{pairs}
use Rattle.arena_script.specs.Things.{Things}
use Rattle.arena_script.specs.Acts.{used, HasNoPlace}
use Rattle.arena_script.specs.Serves.{IsAfter, Stops}
use Rattle.arena_script.specs.Running.{HoldsObjects, IsStart, IsRun, IsRunTo, EndsBy, IsStoppedAt, cost_with_next}
use Rattle.arena_script.specs.Asks.{asks}
use Rattle.arena_script.specs.Places.{DeniedBlock, RunsOut, block_at}
use Rattle.arena_script.proofs.RunningLemmas.{after_none, seen_is, cost_more, stopped_costs, stopped_kind}
use Rattle.arena_script.proofs.ServeLemmas.{no_place_within}
use Rattle.arena_script.proofs.NeedLemmas.{needed}

-- the outcome with these replies, this ending and these bytes
abbrev pub came : List ScriptReply → Ended → ℕ → Outcome
came replies ended bytes = record { replies = replies; ended = ended; used = bytes }

-- the command at a place
pub record IsAt (script : List Command) (i : ℕ) (c : Command) : Type 0 where
  pub inside : i < length script
  pub is : slice_get script i ≡ Some c
  pub more : take (i + 1) script ≡ take i script ++ c ∷ []

pub is_at : (script : List Command) (i : ℕ) (c : Command) → i < length script → c ≡ get_or script i c → IsAt script i c
is_at script i c inside same = grind (arith, nat_tests, slice_get-get_or, add-one, take-suc)

-- a map's block has the bytes of its pairs
abbrev pub HavePairs : Type 0
HavePairs = (m : Memory) (h : HashMap ℕ ℕ FxHasher) → IsMapIn pairs m h → (4 + 4) * h.len ≤ h.table.block.size

module _ (script : List Command) (start : View) {replies : List ScriptReply} {i : ℕ} (inside : i ≤ length script)
    (are : replies ≡ (run (take i script)).replies) where
  counted : length replies ≡ i
  counted = ap length are ∙ reply_count [] (take i script) ∙ omega (arith, length-take i script)

  first : replies ≡ take (length replies) (run script).replies
  first = are ∙ first_replies i script ∙ ap (λ n. take n (run script).replies) (sym counted)

  next_cost : (ended : Ended) (bytes : ℕ) → cost_with_next script (came replies ended bytes) ≡ cost_of (take (i + 1) script)
  next_cost ended bytes = ap (λ n. cost_of_first (n + 1) script) counted ∙ sym (first_cost (i + 1) script)

  -- what the objects so far need is in use
  needs : HavePairs → {now : View} {things : Things} → IsAfter script start now things i
      → need (run (take (length replies) script)).objects ≤ used now
  needs maps {now} {things} after = grind (arith, nat_tests, counted, needed)

  -- The commands with replies were served, and then it ended.
  ran_to : {now next : View} {things : Things} → IsAfter script start now things i → (ended : Ended) (bytes : ℕ)
      → EndsBy ended (slice_get script i) (run (take i script)).objects (block_at things) now next
      → IsRunTo script (came replies ended bytes) start next
  ran_to {now} {next} {things} after ended bytes ends = record {
    before = now;
    things = things;
    after = subst (λ n. IsAfter script start now things n) (sym counted) after;
    ends = subst (λ n. EndsBy ended (slice_get script n) (run (take n script)).objects (block_at things) now next) (sym counted) ends;
  }

  -- ---- Every command was served.

  module _ (maps : HavePairs) {now : View} {things : Things} (begins : IsStart start) (after : IsAfter script start now things i) (all : i ≡ length script)
      {bytes : ℕ} (is : bytes ≡ used now) where
    whole : take i script ≡ script
    whole = ap (λ n. take n script) all ∙ take-length script

    rises : cost_of (take i script) ≤ cost_of (take (i + 1) script)
    rises = omega (arith, cost_rises i (i + 1) script (omega arith), first_cost i script, first_cost (i + 1) script)

    pub run_done : IsRun script start now (came replies Done bytes)
    run_done =
        let told = are ∙ ap (λ s. (run s).replies) whole in
        let holds : HoldsObjects now.memory (run script).objects =
        record { things = things; are = after.are; mean = after.objects ∙ ap (λ s. (run s).objects) whole } in
        let asks = asks_more _ (used start + cost_with_next script (came replies Done bytes)) start.memory.state now.memory.state start.source
        now.source (omega (arith, next_cost Done bytes, rises)) after.costs.asks in
        let need_all : need (run script).objects ≤ bytes = omega (
          arith,
          ap (λ s. need (run s).objects) whole,
          ap need after.objects,
          needed maps now.memory things after.are,
          after.least,
          is,
        ) in
        let ran = ran_to after Done bytes (slice_get_past script i (omega (arith, all)), refl) in
        grind (arith, ran, told, first, holds, asks, is, next_cost Done bytes, after.costs.takes, begins, rises, need_all, needs maps after, after.kind)

  -- ---- A command wasn't served.

  module _ (maps : HavePairs) {now next : View} {things : Things} {c : Command} (at : IsAt script i c) (begins : IsStart start)
      (after : IsAfter script start now things i) {e : AllocError} (stops : Stops c now next things e) {bytes : ℕ}
      (is : bytes ≡ used next) where
    abbrev objects : Objects
    objects = (run (take i script)).objects

    stopped_at : (ended : Ended) → IsStoppedAt script (came replies ended bytes)
    stopped_at ended = grind (arith, nat_tests, slice_get, counted)

    asks_for : (ended : Ended) → AsksWithin (used start + cost_with_next script (came replies ended bytes)) start next
    asks_for ended = asks_more _ _ start.memory.state next.memory.state start.source next.source
        (omega (arith, next_cost ended bytes)) (stopped_costs c at.more after stops).asks

    -- It ended otherwise than done.
    run_stopped : (ended : Ended) → ended ≢ Done → (ended ≡ Full → IsFull (cost_with_next script (came replies ended bytes)) start)
        → (ended ≡ Refused → IsStarvedWithin (cost_with_next script (came replies ended bytes)) start.memory.state next.memory.state
        start.source next.source)
        → EndsBy ended (slice_get script i) (run (take i script)).objects (block_at things) now next
        → (ended ≢ OutOfMemory → HasNoPlace (cost_with_next script (came replies ended bytes)) next)
        → IsRun script start next (came replies ended bytes)
    run_stopped ended other full refused ends denied =
        let costs = stopped_costs c at.more after stops in
        let ran = ran_to after ended bytes ends in
        grind (
          arith,
          other,
          full,
          refused,
          ran,
          denied,
          first,
          asks_for ended,
          is,
          next_cost ended bytes,
          begins,
          costs.takes,
          needs maps after,
          stops.least,
          stopped_at ended,
          stopped_kind c at.more after stops,
        )

    -- Memory ran out.
    pub run_exhausted : IsRun script start next (came replies OutOfMemory bytes)
    run_exhausted = run_stopped OutOfMemory (λ e. cc) (λ e. absurd (cc)) (λ e. absurd (cc))
        (inr (subst (λ o. IsSomeAnd o (λ d. RunsOut (effect d (get objects)) (asks d (get objects) (block_at things)) now next)) (sym at.is)
        (subst (λ (of : ℕ → Option Object). RunsOut (effect c of) (asks c of (block_at things)) now next) (seen_is now.memory things after.objects) stops.left)))
        (λ other. absurd (other refl))

    -- what the next command asked for
    refused_then : (k : ℕ) → e ≡ AllocErr k
        → IsSomeAnd (slice_get script i)
        (λ d. (k : ℕ) × DeniedBlock (effect d (get objects)) (asks d (get objects) (block_at things)) now next k)
    refused_then k refused =
        subst (λ o. IsSomeAnd o (λ d. (k : ℕ) × DeniedBlock (effect d (get objects)) (asks d (get objects) (block_at things)) now next k))
        (sym at.is) (
          k,
          subst (λ (of : ℕ → Option Object). DeniedBlock (effect c of) (asks c of (block_at things)) now next k) (seen_is now.memory things after.objects)
              (stops.asked k refused),
        )

    no_place : (k : ℕ) → e ≡ AllocErr k → (ended : Ended) → HasNoPlace (cost_with_next script (came replies ended bytes)) next
    no_place k refused ended = no_place_within
        (omega (arith, next_cost ended bytes, cost_more c at.more after, after.costs.takes, begins.unused)) (stops.denied k refused)

    -- The arena refused a block.
    pub run_refused : {k : ℕ} → e ≡ AllocErr k → (grows : Bool) → next.memory.state.is_growing ≡ grows
        → IsRun script start next (came replies (if grows then Refused else Full) bytes)
    run_refused {k} refused true grows = let costs = stopped_costs c at.more after stops in
        run_stopped Refused (λ e. cc) (λ e. absurd (cc)) (λ _. record {
          asks = asks_for Refused;
          starved = costs.starved (sym (stopped_kind c at.more after stops).is_growing ∙ grows) k (ap Err refused);
        }) (refused_then k refused) (λ _. no_place k refused Refused)
    run_refused {k} refused false stays =
        let short = (stopped_costs c at.more after stops).full (sym (stopped_kind c at.more after stops).is_growing ∙ stays) k
        (ap Err refused) in
        run_stopped Full (λ e. cc)
        (λ _. record { still = short.still; short = omega (arith, short.short, begins.unused, next_cost Full bytes) }) (λ e. absurd (cc))
        (refused_then k refused) (λ _. no_place k refused Full)

-- No command was served, since there was no memory for the replies.
pub run_unbegun : (script : List Command) (start : View) → IsStart start → (bytes : ℕ) → bytes ≡ used start
    → IsRun script start start (came [] OutOfMemory bytes)
unfolding run_from
run_unbegun script start begins bytes is =
    let ran : IsRunTo script (came [] OutOfMemory bytes) start start =
    record { before = start; things = []; after = after_none script start begins.unused; ends = inl refl } in
    grind (arith, nat_tests, asks_same, ran)
