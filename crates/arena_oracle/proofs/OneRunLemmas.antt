-- Limits determine which requests are refused, and so a run.
use Rattle.std.proofs.lemmas.Bool.Decides.{nat_tests}
use Rattle.std.proofs.Common.{◌≡◌, ℕ, zero, suc, ◌+◌, ◌-◌, ◌<◌, ◌≤◌, ◌⊎◌, inl, inr, ap, refl, sym, ◌∙◌, arith, List, [], ◌∷◌, ◌++◌, Option, Some, None, Result, Ok, length, take, take_all, take-take, map, sum, append_assoc, append-nil, length-take}
use Rattle.std.specs.Option.{option_map}
use Rattle.std.proofs.lemmas.List.{take-map}
use Rattle.std.proofs.lemmas.List.Sums.{sum_by-cons}
use Rattle.std.proofs.lemmas.Option.{same_Some, none-some, option_and_then_some}
use Rattle.arena_rules.specs.State.{State}
use Rattle.arena_rules.specs.Search.{place, asked, requests, requests_at, chunk_align}
use Rattle.arena_rules.specs.Moves.{requests_anew}
use Rattle.call_rules.specs.Machine.{Machine, step, run, run_from, fresh, reply_first, told}
use Rattle.call_rules.specs.Requests.{placed_anew, call_requests, requests_from}
use Rattle.call_rules.specs.declared.calls.Call.{Call}
use Rattle.call_rules.specs.declared.calls.Reply.{Reply}
use Rattle.call_rules.specs.Grammar.{CallsOf}
use Rattle.call_rules.specs.Replies.{text_of}
use Rattle.call_rules.proofs.ReadingLemmas.{same_reading}
use Rattle.arena_store.specs.Source.{Source, View}
use Rattle.arena_store.specs.declared.block.Block.{Block}
use Rattle.arena_runs.specs.Runs.{Runs, held_blocks}
use Rattle.arena_calls.specs.Ends.{summary_lines}
use Rattle.arena_calls.specs.declared.status.Status.TheVariants.{Done}
use Rattle.arena_drawing.specs.Ends.{picture_of}
use Rattle.arena_oracle.specs.Answers.{CallsWithin, DrawsWithin, GenWithin, Yields}
use Rattle.arena_oracle.specs.Limits.{KeepsLimits, left_behind, limited, refusals_of}
use Rattle.arena_oracle.proofs.LimitLemmas.{refusals_most}

-- ---- One call

-- of d more requests at most d are refused
rises : (refuse : List ℕ) (n left i d : ℕ) (xs : List (ℕ × ℕ))
    → refusals_of refuse n left (take (i + d) xs) ≤ refusals_of refuse n left (take i xs) + d
rises refuse n left zero d xs =
    let none : zero + d ≡ d = omega arith in
    rw none (omega (arith, refusals_most refuse n left (take d xs), length-take d xs))
rises refuse n left (suc i) d [] =
    let more : suc i + d ≡ suc (i + d) = omega arith in
    rw more (omega arith)
rises refuse n left (suc i) d (x ∷ xs) =
    let more : suc i + d ≡ suc (i + d) = omega arith in
    rw more (omega (arith, rises refuse (n + 1) (left_behind refuse n left x.0) i d xs))

rises_behind : (refuse : List ℕ) (n left i d : ℕ) (made xs : List (ℕ × ℕ))
    → refusals_of refuse n left (made ++ take (i + d) xs) ≤ refusals_of refuse n left (made ++ take i xs) + d
rises_behind refuse n left i d [] xs = rises refuse n left i d xs
rises_behind refuse n left i d (x ∷ made) xs = omega (arith, rises_behind refuse (n + 1) (left_behind refuse n left x.0) i d made xs)

-- Behind some requests, of which s were refused, the first k of these are refused, and the next isn't.
record IsCut (budget : ℕ) (refuse : List ℕ) (s : ℕ) (made all : List (ℕ × ℕ)) (k : ℕ) : Type 0 where
  pub refused : s + k ≡ refusals_of refuse 1 budget (made ++ take k all)
  pub allowed : s + k ≡ refusals_of refuse 1 budget (made ++ take (k + 1) all)

one_cut : (budget : ℕ) (refuse : List ℕ) (s : ℕ) (made all : List (ℕ × ℕ)) (k j : ℕ)
    → IsCut budget refuse s made all k → IsCut budget refuse s made all j → k < j → ⊥
one_cut budget refuse s made all k j one other less =
    let to : (k + 1) + (j - (k + 1)) ≡ j = omega (arith, less) in
    let most = rw to at (rises_behind refuse 1 budget (k + 1) (j - (k + 1)) made all) in
    absurd (omega (arith, most, one.allowed, other.refused, less))

same_cut : (budget : ℕ) (refuse : List ℕ) (s : ℕ) (made all : List (ℕ × ℕ)) (k j : ℕ)
    → IsCut budget refuse s made all k → IsCut budget refuse s made all j → k ≡ j
same_cut budget refuse s made all k j one other = elim (either k j) [
  | inl same ↦ same
  | inr (inl less) ↦ absurd (one_cut budget refuse s made all k j one other less)
  | inr (inr more) ↦ absurd (one_cut budget refuse s made all j k other one more)
]
  where
    either : (k j : ℕ) → (k ≡ j) ⊎ ((k < j) ⊎ (j < k))
    either k j = grind arith

-- the requests of a call are the first ones of some that don't depend on the refusals
first_requests : (layout : Option (ℕ × ℕ)) (state : State)
    → (all : List (ℕ × ℕ)) × ((k : ℕ) → requests_anew layout state k ≡ take (k + 1) all)
unfolding requests
first_requests None state = ([], λ k. sym (take_all (k + 1) [] (omega arith)))
first_requests (Some layout) state = at_place (place state layout.0 layout.1) (asked state layout.0 layout.1)
  where
    at_place : (p : Option ℕ) (chunks : List (ℕ × ℕ))
        → (all : List (ℕ × ℕ)) × ((k : ℕ) → requests_at p layout.1 k chunks ≡ take (k + 1) all)
    at_place (Some p) chunks = ([], λ k. sym (take_all (k + 1) [] (omega arith)))
    at_place None chunks = (
      map (λ (e : ℕ × ℕ). (e.1, chunk_align layout.1)) chunks,
      λ k. sym (take-map (λ (e : ℕ × ℕ). (e.1, chunk_align layout.1)) (k + 1) chunks),
    )

take_behind : (made xs : List (ℕ × ℕ)) (k : ℕ) → take (length made + k) (made ++ xs) ≡ made ++ take k xs
take_behind [] xs k = let none : 0 + k ≡ k = omega arith in ap (λ n. take n xs) none
take_behind (x ∷ made) xs k =
    let more : length (x ∷ made) + k ≡ suc (length made + k) = omega arith in
    ap (λ n. take n (x ∷ made ++ xs)) more ∙ ap (λ rest. x ∷ rest) (take_behind made xs k)

-- ---- A run

mapped : {A B P : Type 0} (f : A → B) → (o : Option A) (y : B) → option_map f o ≡ Some y → ((x : A) → o ≡ Some x → f x ≡ y → P) → P
mapped f o y is go = grind (arith, nat_tests, none-some, same_Some)

-- Behind some requests, of which s were refused, calls are run within limits.
record KeepsBehind (budget : ℕ) (refuse : List ℕ) (s : ℕ) (made : List (ℕ × ℕ)) (m : Machine) (calls : List Call) (ks : List ℕ) : Type 0 where
  pub first : (n : ℕ) → n ≤ length calls
      → s + sum (take n ks) ≡ refusals_of refuse 1 budget (made ++ requests_from m (take n calls) (take n ks))
  pub next : (n : ℕ) → n < length calls → s + sum (take (n + 1) ks) ≡ refusals_of refuse 1 budget
      (take (length (made ++ requests_from m (take n calls) (take n ks)) + (sum (take (n + 1) ks) - sum (take n ks)))
      (made ++ requests_from m (take (n + 1) calls) (take (n + 1) ks)))

module _ (budget : ℕ) (refuse : List ℕ) (s : ℕ) (made : List (ℕ × ℕ)) (m : Machine) (call : Call) (calls : List Call) (k : ℕ) (ks : List ℕ)
    (first : Reply × Machine) (is : step call k m ≡ Some first) (keeps : KeepsBehind budget refuse s made m (call ∷ calls) (k ∷ ks)) where
  stepping : (calls : List Call) (ks : List ℕ)
      → requests_from m (call ∷ calls) (k ∷ ks) ≡ call_requests call k m ++ requests_from first.1 calls ks
  unfolding requests_from
  stepping calls ks = rw is refl

  head_kept : (all : List (ℕ × ℕ)) → call_requests call k m ≡ take (k + 1) all → IsCut budget refuse s made all k
  unfolding requests_from
  head_kept all same =
      let alone : requests_from m (call ∷ []) (k ∷ []) ≡ take (k + 1) all = stepping [] [] ∙ append-nil (call_requests call k m) ∙ same in
      let count : sum (k ∷ []) ≡ k = omega arith in
      let one : s + sum (k ∷ []) ≡ refusals_of refuse 1 budget (made ++ requests_from m (call ∷ []) (k ∷ [])) =
      keeps.first 1 (omega arith) in
      let two : s + sum (k ∷ []) ≡ refusals_of refuse 1 budget
      (take (length (made ++ []) + (sum (k ∷ []) - 0)) (made ++ requests_from m (call ∷ []) (k ∷ []))) = keeps.next 0 (omega arith) in
      let none : k - 0 ≡ k = omega arith in
      record {
        refused = rw (count, none, append-nil made, alone, take_behind made (take (k + 1) all) k, take-take k (k + 1) all (omega arith)) at two;
        allowed = rw (count, alone) at one;
      }

  tail_kept : KeepsBehind budget refuse (s + k) (made ++ call_requests call k m) first.1 calls ks
  tail_kept = record {
    first = λ n within.
        let more : s + sum (k ∷ take n ks) ≡ refusals_of refuse 1 budget (made ++ requests_from m (call ∷ take n calls) (k ∷ take n ks)) =
        keeps.first (suc n) (omega (arith, within)) in
        let moved = rw (stepping (take n calls) (take n ks), sum_by-cons (λ x. x) k (take n ks)) at more in
        rw (append_assoc made (call_requests call k m) (requests_from first.1 (take n calls) (take n ks))) (omega (arith, moved));
    next = λ n within.
        let on : suc n + 1 ≡ suc (n + 1) = omega arith in
        let more : s + sum (k ∷ take (n + 1) ks) ≡ refusals_of refuse 1 budget
        (take (length (made ++ requests_from m (call ∷ take n calls) (k ∷ take n ks)) + (sum (k ∷ take (n + 1) ks) - sum (k ∷ take n ks)))
        (made ++ requests_from m (call ∷ take (n + 1) calls) (k ∷ take (n + 1) ks))) = rw on at (keeps.next (suc n) (omega (arith, within))) in
        let apart : (k + sum (take (n + 1) ks)) - (k + sum (take n ks)) ≡ sum (take (n + 1) ks) - sum (take n ks) = omega arith in
        let moved = rw (
          stepping (take n calls) (take n ks),
          stepping (take (n + 1) calls) (take (n + 1) ks),
          sum_by-cons (λ x. x) k (take n ks),
          sum_by-cons (λ x. x) k (take (n + 1) ks),
          apart,
        ) at more in
        rw (
          append_assoc made (call_requests call k m) (requests_from first.1 (take n calls) (take n ks)),
          append_assoc made (call_requests call k m) (requests_from first.1 (take (n + 1) calls) (take (n + 1) ks)),
        ) (omega (arith, moved));
  }

same_refusals : (budget : ℕ) (refuse : List ℕ) (s : ℕ) (made : List (ℕ × ℕ)) (m : Machine) (calls : List Call) (ks js : List ℕ)
    (one other : List Reply × Machine) → run_from m calls ks ≡ Some one → run_from m calls js ≡ Some other
    → KeepsBehind budget refuse s made m calls ks → KeepsBehind budget refuse s made m calls js → ks ≡ js
unfolding run_from
same_refusals budget refuse s made m [] [] [] one other ran also a b = refl
same_refusals budget refuse s made m [] (k ∷ ks) js one other ran also a b = cc
same_refusals budget refuse s made m [] [] (j ∷ js) one other ran also a b = cc
same_refusals budget refuse s made m (call ∷ calls) [] js one other ran also a b = cc
same_refusals budget refuse s made m (call ∷ calls) (k ∷ ks) [] one other ran also a b = cc
same_refusals budget refuse s made m (call ∷ calls) (k ∷ ks) (j ∷ js) one other ran also a b =
    stepped k ks one ran (λ first is rest ran.
    stepped j js other also (λ second was tail also.
    let all = first_requests (placed_anew call m) m.state in
    let here : k ≡ j = same_cut budget refuse s made all.0 k j (head_kept budget refuse s made m call calls k ks first is a all.0 (all.1 k))
    (head_kept budget refuse s made m call calls j js second was b all.0 (all.1 j)) in
    let same : second ≡ first = same_Some _ _ (sym was ∙ rw here at is) in
    let on = same_refusals budget refuse (s + k) (made ++ call_requests call k m) first.1 calls ks js rest tail ran (rw same at also)
    (tail_kept budget refuse s made m call calls k ks first is a)
    (rw (← here, same) at (tail_kept budget refuse s made m call calls j js second was b)) in
    rw (here, on) refl))
  where
    stepped : {P : Type 0} (k : ℕ) (ks : List ℕ) (end : List Reply × Machine) → run_from m (call ∷ calls) (k ∷ ks) ≡ Some end
        → ((first : Reply × Machine) → step call k m ≡ Some first → (rest : List Reply × Machine)
        → run_from first.1 calls ks ≡ Some rest → P) → P
    stepped k ks end ran go = option_and_then_some _ (step call k m) end ran (λ first is rest.
        mapped (reply_first first.0) (run_from first.1 calls ks) end rest (λ tail at same. go first is tail at))

kept_behind : (budget : ℕ) (refuse : List ℕ) (entry : State) (calls : List Call) (replies : List Reply)
    → KeepsLimits budget refuse entry calls replies → KeepsBehind budget refuse 0 [] (fresh entry) calls (told replies)
kept_behind budget refuse entry calls replies keeps = record {
  first = λ n within. omega (arith, keeps.first n within);
  next = λ n within. omega (arith, keeps.next n within);
}

-- Two runs of the same calls within the same limits are the same.
pub same_run : (budget : ℕ) (refuse : List ℕ) (entry : State) (calls : List Call) (one other : List Reply) (last end : Machine)
    → run entry calls (told one) ≡ Some (one, last) → run entry calls (told other) ≡ Some (other, end)
    → KeepsLimits budget refuse entry calls one → KeepsLimits budget refuse entry calls other → (one ≡ other) × (last ≡ end)
same_run budget refuse entry calls one other last end ran also a b =
    let same = same_refusals budget refuse 0 [] (fresh entry) calls (told one) (told other) _ _ ran also
    (kept_behind budget refuse entry calls one a) (kept_behind budget refuse entry calls other b) in
    let both = same_Some {A = List Reply × Machine} (one, last) (other, end) (sym ran ∙ rw (← same) at also) in
    (ap (λ (p : List Reply × Machine). p.0) both, ap (λ (p : List Reply × Machine). p.1) both)

-- ---- What two calls of an export return

module _ (budget : ℕ) (refuse : List ℕ) (entry exit end : View) (state : State) (at : entry.memory.state ≡ state) where
  pub same_result : (calls others : List Call) (one other : List Reply) (held blocks : List (ℕ × Block))
      → Runs entry exit calls one held → KeepsLimits budget refuse state calls one
      → Runs entry end others other blocks → KeepsLimits budget refuse state others other
      → calls ≡ others → (one ≡ other) × (held ≡ blocks) × (exit.memory.state ≡ end.memory.state)
  same_result calls others one other held blocks a keeps b keeps_too same =
      let both = same_run budget refuse state calls one other a.last b.last (rw at at a.ran) (rw (at, ← same) at b.ran)
      keeps (rw (← same) at keeps_too) in (
        both.0,
        a.held ∙ ap (λ (last : Machine). held_blocks last.state.generation last.held) both.1 ∙ sym b.held,
        a.stands.state ∙ ap (λ (last : Machine). last.state) both.1 ∙ sym b.stands.state,
      )

one_ok : (calls others : List Call) → ◌≡◌ {A = Result (List Call) ℕ} (Ok calls) (Ok others) → calls ≡ others
one_ok calls others same = cc

-- bytes that are read to their end are read as one list of calls
one_list : (lines bytes more : List ℕ) (calls others : List Call) → bytes ≡ lines → more ≡ lines → CallsOf bytes (Ok calls)
    → CallsOf more (Ok others) → calls ≡ others
one_list lines bytes more calls others here there a b =
    one_ok _ _ (same_reading lines (Ok calls) (Ok others) (rw here at a) (rw there at b))

pub same_calls_text : (budget : ℕ) (refuse lines text other : List ℕ) (after later : Source)
    → Yields (CallsWithin budget refuse) lines (limited budget refuse) after Done text
    → Yields (CallsWithin budget refuse) lines (limited budget refuse) later Done other → text ≡ other
same_calls_text budget refuse lines text other after later a b =
    let one = a.ends.0.1 in let two = b.ends.0.1 in
    let same = same_result budget refuse _ _ _ _ refl one.0 two.0 _ _ _ _ one.2.runs a.ends.1 two.2.runs b.ends.1
    (one_list lines one.1.bytes two.1.bytes one.0 two.0 one.1.whole.told.0 two.1.whole.told.0 one.1.lines two.1.lines) in
    one.2.written ∙ ap text_of same.0 ∙ sym two.2.written

pub same_gen_text : (budget : ℕ) (refuse text other : List ℕ) (start count : ℕ) (after later : Source)
    → Yields (GenWithin start count budget refuse) [] (limited budget refuse) after Done text
    → Yields (GenWithin start count budget refuse) [] (limited budget refuse) later Done other → text ≡ other
same_gen_text budget refuse text other start count after later a b =
    let one = a.ends.0.2 in let two = b.ends.0.2 in
    let same = same_result budget refuse _ _ _ _ refl _ _ _ _ _ _ one.runs a.ends.1 two.runs b.ends.1 refl in
    one.written ∙ (λ i. summary_lines (same.0 i) (same.2 i)) ∙ sym two.written

pub same_picture : (budget : ℕ) (refuse lines text other : List ℕ) (after later : Source)
    → Yields (DrawsWithin budget refuse) lines (limited budget refuse) after Done text
    → Yields (DrawsWithin budget refuse) lines (limited budget refuse) later Done other → text ≡ other
same_picture budget refuse lines text other after later a b =
    let one = a.ends.0.1 in let two = b.ends.0.1 in
    let same = same_result budget refuse _ _ _ _ refl one.0 two.0 _ _ _ _ one.2.runs a.ends.1 two.2.runs b.ends.1
    (one_list lines one.1.bytes two.1.bytes one.0 two.0 one.1.whole.told.0 two.1.whole.told.0 one.1.lines two.1.lines) in
    one.2.written ∙ (λ i. picture_of (same.2 i) (same.1 i)) ∙ sym two.2.written
