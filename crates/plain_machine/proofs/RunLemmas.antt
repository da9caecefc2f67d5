-- A run, call by call.
use Rattle.std.proofs.lemmas.Bool.Decides.{nat_tests}
use Rattle.std.proofs.Common.{◌≡◌, ◌≢◌, ℕ, suc, ◌<◌, ◌≤◌, arith, length, drop, get_or, drop-cons, add-one, ◌+◌, refl, sym, ap, ◌∙◌, List, [], ◌∷◌, ◌++◌, append_assoc, Some, None, Option}
use Rattle.std.proofs.lemmas.List.{drop_all, append-nil}
use Rattle.std.specs.Option.{option_map, option_and_then}
use Rattle.call_rules.specs.Machine.{Machine, Next, step, run_from, reply_first}
use Rattle.call_rules.specs.declared.calls.Call.{Call}
use Rattle.call_rules.specs.declared.calls.Reply.{Reply}

-- replies before those of the calls that follow
abbrev pub replies_first : List Reply → List Reply × Machine → List Reply × Machine
replies_first replies rest = (replies ++ rest.0, rest.1)

-- a run after these replies
abbrev pub run_after : List Reply → Machine → List Call → List ℕ → Option (List Reply × Machine)
run_after replies m calls ks = option_map (replies_first replies) (run_from m calls ks)

-- the calls from this one on
record IsNext (calls : List Call) (ks : List ℕ) (i : ℕ) (call : Call) : Type 0 where
  first_call : drop i calls ≡ call ∷ drop (i + 1) calls
  first_number : drop i ks ≡ get_or ks i 0 ∷ drop (i + 1) ks

is_next : (calls : List Call) (ks : List ℕ) (i : ℕ) (call : Call) → i < length calls → length calls ≡ length ks → call ≡ get_or calls i call
    → IsNext calls ks i call
is_next calls ks i call low even is = record {
  first_call = rw add-one (drop-cons calls i call low ∙ ap (λ (c : Call). c ∷ drop (suc i) calls) (sym is));
  first_number = rw add-one (drop-cons ks i 0 (omega arith));
}

-- a call with a step
pub run_more : (replies : List Reply) (m next : Machine) (calls : List Call) (ks : List ℕ) (i : ℕ) (call : Call) (reply : Reply)
    → i < length calls → length calls ≡ length ks → call ≡ get_or calls i call → step call (get_or ks i 0) m ≡ Some (reply, next)
    → run_after replies m (drop i calls) (drop i ks) ≡ run_after (replies ++ reply ∷ []) next (drop (i + 1) calls) (drop (i + 1) ks)
unfolding run_from
run_more replies m next calls ks i call reply low even is one =
    let here = is_next calls ks i call low even is in
    rw (here.first_call, here.first_number, one) (go (run_from next (drop (i + 1) calls) (drop (i + 1) ks)))
  where
    go : (rest : Option (List Reply × Machine))
        → option_map (replies_first replies) (option_map (reply_first reply) rest) ≡ option_map (replies_first (replies ++ reply ∷ [])) rest
    go None = refl
    go (Some rest) = ap (λ (l : List Reply). Some (l, rest.1)) (sym (append_assoc replies (reply ∷ []) rest.0))

-- a call with no step
pub run_none : (replies : List Reply) (m : Machine) (calls : List Call) (ks : List ℕ) (i : ℕ) (call : Call)
    → i < length calls → length calls ≡ length ks → call ≡ get_or calls i call → step call (get_or ks i 0) m ≡ None
    → run_after replies m (drop i calls) (drop i ks) ≡ None
unfolding run_from
run_none replies m calls ks i call low even is none = grind (arith, nat_tests, is_next)

-- no call is left
pub run_done : (replies : List Reply) (m : Machine) (calls : List Call) (ks : List ℕ) (i : ℕ) → length calls ≤ i → length calls ≡ length ks
    → run_after replies m (drop i calls) (drop i ks) ≡ Some (replies, m)
unfolding run_from
run_done replies m calls ks i past even = rw (drop_all i calls past, drop_all i ks (omega arith), append-nil) refl

-- There is no run with more calls than numbers, or fewer.
pub run_uneven : (m : Machine) (calls : List Call) (ks : List ℕ) → length calls ≢ length ks → run_from m calls ks ≡ None
unfolding run_from
run_uneven m [] [] uneven = absurd (uneven refl)
run_uneven m [] (k ∷ ks) uneven = refl
run_uneven m (call ∷ calls) [] uneven = refl
run_uneven m (call ∷ calls) (k ∷ ks) uneven = go (step call k m) (λ next. run_uneven next calls ks (omega arith))
  where
    go : (o : Option Next) → ((next : Machine) → run_from next calls ks ≡ None)
        → option_and_then {U = List Reply × Machine} (λ next. option_map (reply_first next.0) (run_from next.1 calls ks)) o ≡ None
    go None rest = refl
    go (Some next) rest = ap (option_map {T = List Reply × Machine} {U = List Reply × Machine} (reply_first next.0)) (rest next.1)
