-- A source within limits, after each call of a run.
use Rattle.std.proofs.Common.{◌≡◌, ℕ, ◌+◌, ◌-◌, ◌<◌, ◌≤◌, ◌⊎◌, ◌||◌, Bool, true, false, not, IsTrue, refl, sym, ap, ◌∙◌, arith, inl, inr, List, [], ◌∷◌, ◌++◌, length, take, take_all, sum, eqb-true, append_assoc}
use Rattle.std.proofs.lemmas.List.{length-append, length-map, map-append, take-append-le}
use Rattle.std.proofs.lemmas.Option.{same_Some}
use Rattle.arena_rules.specs.State.{State}
use Rattle.call_rules.specs.Generator.{gen_calls}
use Rattle.call_rules.specs.Machine.{Machine, Held, fresh, told, refused_of}
use Rattle.call_rules.specs.Requests.{requests_from, requests_of}
use Rattle.call_rules.specs.declared.calls.Call.{Call}
use Rattle.call_rules.specs.declared.calls.Reply.{Reply}
use Rattle.call_rules.proofs.GeneratorLemmas.{generated_count}
use Rattle.arena_store.specs.Source.{Source, View, IsAsked}
use Rattle.arena_runs.specs.Running.{IsRunning}
use Rattle.arena_runs.specs.Marks.{Noted}
use Rattle.arena_calls.proofs.GeneratingLemmas.{calls_first}
use Rattle.arena_oracle.specs.Limits.{KeepsThose, refused_by, refusals_of, given, reported, limited}
use Rattle.arena_oracle.specs.Sources.{source_of}
use Rattle.arena_oracle.specs.declared.source.ListedChunks.{ListedChunks}
use Rattle.arena_oracle.proofs.LimitLemmas.{refusals_most}
use Rattle.arena_oracle.proofs.ReportLemmas.{given_same}

-- Of the requests of the first n of these i calls, for each n, as many were refused as the limits refuse, and so on; and
-- the source has just these requests and refusals.
pub record KeepsTurns (budget : ℕ) (refuse : List ℕ) (entry : State) (chunks : ListedChunks) (first : ℕ → List Call) (i : ℕ)
    (replies : List Reply) : Type 0 where
  pub count : length replies ≡ i
  pub made : requests_of entry (first i) (told replies) ≡ chunks.requests.items
  pub refused : sum (told replies) ≡ chunks.refused
  pub each : (n : ℕ) → n ≤ i → refused_by replies n ≡ refusals_of refuse 1 budget (requests_of entry (first n) (take n (told replies)))
  pub next : (n : ℕ) → n < i → refused_by replies (n + 1) ≡ refusals_of refuse 1 budget
      (take (length (requests_of entry (first n) (take n (told replies))) + (refused_by replies (n + 1) - refused_by replies n))
      (requests_of entry (first (n + 1)) (take (n + 1) (told replies))))

-- for any limits that a source has
abbrev pub KeepsFirst : Source → State → ListedChunks → (ℕ → List Call) → ℕ → List Reply → Type 0
KeepsFirst source entry chunks first i replies =
    (budget : ℕ) (refuse : List ℕ) → source ≡ limited budget refuse → KeepsTurns budget refuse entry chunks first i replies

-- ---- Before the first call

none_asked : (m : Machine) (calls : List Call) → requests_from m calls [] ≡ []
unfolding requests_from
none_asked m [] = refl
none_asked m (call ∷ calls) = refl

-- a source that reports its limits alone has had no request
nothing_made : (e : Bool) (b budget : ℕ) (r refuse : List ℕ) (xs : List (ℕ × ℕ)) → reported e b r xs ≡ reported false budget refuse [] → xs ≡ []
nothing_made true b budget r refuse xs same = absurd (cc)
nothing_made false b budget r refuse xs same = (given_same b budget r refuse xs [] (same_Some _ _ same)).2

pub turns_first : (chunks : ListedChunks) (entry : State) (first : ℕ → List Call) → KeepsFirst (source_of chunks) entry chunks first 0 []
turns_first chunks entry first budget refuse is =
    let nothing = nothing_made chunks.exhausted chunks.budget budget chunks.refuse.now refuse chunks.requests.items (ap (λ (s : Source). s.asked) is) in
    record {
      count = refl;
      made = none_asked (fresh entry) (first 0) ∙ sym nothing;
      refused = sym (ap (λ (s : Source). s.refusals) is);
      each = λ n least. let none : n ≡ 0 = omega (arith, least) in
          rw none (sym (ap (refusals_of refuse 1 budget) (none_asked (fresh entry) (first 0))));
      next = λ n within. absurd (omega (arith, within));
    }

-- ---- After one more

-- what the source has of all requests so far: as many were refused as the limits refuse
record IsSoFar (chunks : ListedChunks) (k budget : ℕ) (made : List (ℕ × ℕ)) (refuse : List ℕ) : Type 0 where
  pub budget_is : chunks.budget ≡ budget
  pub refuse_is : chunks.refuse.now ≡ refuse
  pub made_is : made ≡ chunks.requests.items
  pub refused : k ≡ chunks.refused
  pub counts : k ≡ refusals_of refuse 1 budget made

refused_so_far : (source : Source) (chunks : ListedChunks) (k budget : ℕ) (made : List (ℕ × ℕ)) (refuse : List ℕ)
    → source ≡ limited budget refuse → chunks.exhausted ≡ false → IsAsked source (source_of chunks) k made
    → IsSoFar chunks k budget made refuse
refused_so_far source chunks k budget made refuse is known asked =
    let more = rw (is, known) at asked.requests in
    let same = given_same chunks.budget budget chunks.refuse.now refuse chunks.requests.items made
    (more ∙ append_assoc (given budget refuse) [] made) in
    let refused : chunks.refused ≡ refusals_of chunks.refuse.now 1 chunks.budget chunks.requests.items =
    eqb-true _ _ (rw known at chunks.refusals) in
    let most = refusals_most chunks.refuse.now 1 chunks.budget chunks.requests.items in
    let count = rw is at asked.refusals in
    let all : k ≡ chunks.refused = omega (arith, count, refused, most, chunks.few) in
    record {
      budget_is = same.0;
      refuse_is = same.1;
      made_is = sym same.2;
      refused = all;
      counts = all ∙ refused ∙ rw (same.0, same.1, same.2) refl;
    }

-- the requests that the source has, after some that it had, end with one that was granted, or with none
abbrev pub EndsGranted : ListedChunks → ListedChunks → Type 0
EndsGranted old new = new.refused ≡ refusals_of new.refuse.now 1 new.budget
    (take (length old.requests.items + (new.refused - old.refused)) new.requests.items)

module _ (entry now : View) (old chunks : ListedChunks) (names : Held) (noted : Noted) (first : ℕ → List Call) (i : ℕ) (list : List Reply)
    (reply : Reply) (calls : List Call) (more : first (i + 1) ≡ calls) where
  pub turns_more : now.source ≡ source_of chunks → IsRunning entry now names noted calls (list ++ reply ∷ [])
      → chunks.exhausted ≡ false → EndsGranted old chunks → KeepsFirst entry.source entry.memory.state old first i list
      → KeepsFirst entry.source entry.memory.state chunks first (i + 1) (list ++ reply ∷ [])
  turns_more here running known ends before budget refuse is =
      let was = before budget refuse is in
      let telling : told (list ++ reply ∷ []) ≡ told list ++ told (reply ∷ []) = map-append refused_of list (reply ∷ []) in
      let count : length (told list) ≡ i = length-map list refused_of ∙ was.count in
      let counts : length (told (list ++ reply ∷ [])) ≡ i + 1 =
      length-map (list ++ reply ∷ []) refused_of ∙ length-append list (reply ∷ []) ∙ ap (λ (n : ℕ). n + 1) was.count in
      let asked = running.asked in
      let all = refused_so_far entry.source chunks _ budget _ refuse is known (rw here at asked) in
      let whole = take_all (i + 1) (told (list ++ reply ∷ [])) (omega (arith, counts)) in
      let old_ones : take i (told (list ++ reply ∷ [])) ≡ told list =
      ap (λ (ks : List ℕ). take i ks) telling ∙ take-append-le i (told list) (told (reply ∷ [])) (omega (arith, count))
      ∙ take_all i (told list) (omega (arith, count)) in
      let ended = rw (all.budget_is, all.refuse_is) at ends in
      record {
        count = length-append list (reply ∷ []) ∙ ap (λ (n : ℕ). n + 1) was.count;
        made = rw more all.made_is;
        refused = all.refused;
        each = λ n within. elim (last_or n within) [
          | inl early ↦ rw (telling, take-append-le n (told list) (told (reply ∷ [])) (omega (arith, early, count))) (was.each n (omega (arith, early)))
          | inr last ↦ rw (last, more, whole) all.counts
        ];
        next = λ n within. elim (last_or (n + 1) (omega (arith, within))) [
          | inl early ↦ rw (
            telling,
            take-append-le n (told list) (told (reply ∷ [])) (omega (arith, early, count)),
            take-append-le (n + 1) (told list) (told (reply ∷ [])) (omega (arith, early, count)),
          ) (was.next n (omega (arith, early)))
          | inr last ↦
              let same : n ≡ i = omega (arith, last) in
              rw (same, more, whole, old_ones, was.made, was.refused, all.made_is, all.refused) ended
        ];
      }
    where
      last_or : (n : ℕ) → n ≤ i + 1 → (n < i + 1) ⊎ (n ≡ i + 1)
      last_or n within = grind arith

-- ---- After the last

pub neither : (a b : Bool) → (a || b) ≡ false → (a ≡ false) × (b ≡ false)
neither false false none = (refl, refl)
neither false true none = cc
neither true b none = cc

pub shown : (b : Bool) → not b ≡ false → IsTrue b
shown true is = refl
shown false is = cc

pub kept_by_turns : (source : Source) (entry : State) (chunks : ListedChunks) (calls : List Call) (i : ℕ) (replies : List Reply)
    → length calls ≤ i → KeepsFirst source entry chunks (λ (n : ℕ). take n calls) i replies → KeepsThose source entry calls replies
kept_by_turns source entry chunks calls i replies over turns budget refuse is = record {
  first = λ n within. (turns budget refuse is).each n (omega (arith, within, over));
  next = λ n within. (turns budget refuse is).next n (omega (arith, within, over));
}

-- the first parts of generated calls are generated
pub kept_by_generated : (source : Source) (entry : State) (chunks : ListedChunks) (start count : ℕ) (replies : List Reply)
    → KeepsFirst source entry chunks (gen_calls start) count replies → KeepsThose source entry (gen_calls start count) replies
kept_by_generated source entry chunks start count replies turns budget refuse is = record {
  first = λ n within. let fits : n ≤ count = omega (arith, within, generated_count start count) in
      rw (← calls_first start count n fits) ((turns budget refuse is).each n fits);
  next = λ n within. let fits : n < count = omega (arith, within, generated_count start count) in
      rw (← calls_first start count n (omega (arith, fits)), ← calls_first start count (n + 1) (omega (arith, fits)))
      ((turns budget refuse is).next n fits);
}
