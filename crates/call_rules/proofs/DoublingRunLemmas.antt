-- Chunks that double through calls by name and runs of them.
use Rattle.std.proofs.Common.{◌≡◌, ℕ, ◌+◌, ◌≤◌, IsTrue, Some, List, length, false}
use Rattle.std.specs.Prelude.{nat_lt, replicate}
use Rattle.std.specs.FinMap as finite
use Rattle.std.specs.Option.{is_some}
use Rattle.std.proofs.lemmas.Bool.{and_parts}
use Rattle.call_rules.specs.Machine.{Machine, Next, step, run_from, mark_named}
use Rattle.arena_rules.proofs.BackLemmas.{back_doubling}
use Rattle.call_rules.specs.Requests.{placed_anew}
use Rattle.arena_rules.specs.Doubling.{IsDoubling}
use Rattle.call_rules.specs.MadeFirst.{call_made_first, made_first_from}
use Rattle.call_rules.specs.declared.calls.Call.{Call}
use Rattle.call_rules.specs.declared.calls.Call.TheVariants.{Alloc, Grow, Shrink, Dealloc, Write, Read, Mark, Back, Reset, Used, Allocated}
use Rattle.call_rules.specs.declared.calls.Reply.{Reply}
use Rattle.arena_rules.proofs.DoublingLemmas.{doubling_emptied, alloc_doubling, grow_doubling, shrink_doubling, dealloc_doubling}
use Rattle.call_rules.proofs.CallSteps.{Leaves, Keeps, answered, unless, layout_given, found, marked, run_by_steps}

-- ---- One call

abbrev pub DoublesNext : ℕ → Next → Type 0
DoublesNext z next = IsDoubling z next.1.state.chunks

module _ (z k : ℕ) (m : Machine) (small : z ≤ 16320) (double : IsDoubling z m.state.chunks) where
  kept : Keeps (DoublesNext z) k m
  kept = record { same = λ reply plain. double }

  -- Each call leaves doubling chunks, if it makes no chunk or makes it first.
  pub step_doubling : (call : Call) → IsTrue (call_made_first call k m) → Leaves (DoublesNext z) (step call k m)
  unfolding step placed_anew
  step_doubling (Alloc name size align fill) made =
      unless kept (finite.contains_key m.held name) _ _ tt
      (λ free. layout_given kept name _ _ false (replicate size fill) _ (λ fine right o is.
      let d = alloc_doubling z m.state size align k o small double (rw (free, fine) at made) is in (λ addr. d, d)))
  step_doubling (Grow name size align fill) made = found kept _ _ (λ p bs has _. layout_given kept _ _ _ _ _ _ (λ fine right o is.
      let d = grow_doubling z m.state p.addr p.size p.align size align k o small double (rw (has, fine, right) at made) is in
      (λ addr. d, d)))
  step_doubling (Shrink name size align) made = found kept _ _ (λ p bs has _. layout_given kept _ _ _ _ _ _ (λ fine right o is.
      let d = shrink_doubling z m.state p.addr p.size p.align size align k o small double (rw (has, fine, right) at made) is in
      (λ addr. d, d)))
  step_doubling (Dealloc name) made =
      found kept _ _ (λ p bs _ _. answered (DoublesNext z) k _ _ (dealloc_doubling z p.addr p.size m.state double))
  step_doubling (Write name at new) made = found kept _ _ (λ p bs _ _.
      unless kept (nat_lt p.size (at + length new)) _ _ tt (λ fits. answered (DoublesNext z) k _ _ double))
  step_doubling (Read name) made = found kept _ _ (λ p bs _ _. answered (DoublesNext z) k _ _ double)
  step_doubling (Mark name) made =
      unless kept (is_some (mark_named m.marks name)) _ _ tt (λ free. answered (DoublesNext z) k _ _ double)
  step_doubling (Back name) made = marked kept _ _ (λ mark. answered (DoublesNext z) k _ _ (back_doubling z mark m.state double))
  step_doubling Reset made = answered (DoublesNext z) k _ _ (doubling_emptied z m.state.chunks double)
  step_doubling Used made = answered (DoublesNext z) k _ _ double
  step_doubling Allocated made = answered (DoublesNext z) k _ _ double

-- ---- A run

-- Each run leaves doubling chunks, if each of its calls makes no chunk or makes it first.
pub run_doubling : (z : ℕ) (m : Machine) (calls : List Call) (ks : List ℕ) (replies : List Reply) (last : Machine) → z ≤ 16320
    → IsDoubling z m.state.chunks
    → run_from m calls ks ≡ Some (replies, last) → IsTrue (made_first_from m calls ks) → IsDoubling z last.state.chunks
unfolding made_first_from
run_doubling z m calls ks replies last small double ran made =
    let all = run_by_steps (λ m calls ks. IsDoubling z m.state.chunks × IsTrue (made_first_from m calls ks)) (λ reply. Unit {0})
    (λ m call calls k ks next q is. let parts = and_parts (call_made_first call k m) _ q.1 in
    (tt, ((step_doubling z k m small q.0 call parts.0).at next is, rw is at parts.1))) m calls ks (double, made) in
    (rw ran at all).1.0
