-- The bytes in the replies of a run are below 256, if those in the calls are.
use Rattle.std.proofs.Common.{◌≡◌, ℕ, zero, suc, ◌-◌, ◌+◌, Bool, true, false, cond, Some, None, List, [], ◌∷◌, ◌++◌, length, take, drop, subst, sym, ap, ◌∙◌}
use Rattle.std.specs.Prelude.{replicate, nat_lt}
use Rattle.std.specs.List.{AllByRecursion}
use Rattle.std.specs.Option.{is_some}
use Rattle.std.specs.Ordering.{nat_cmp, eq_by_cmp}
use Rattle.std.specs.Cmp.{nat_cmp_total}
use Rattle.std.specs.FinMap as finite
use Rattle.std.specs.FinMap.{get-empty, get-insert, get-retain_keys, nat_cmp-IsAntisymmetric}
use Rattle.std.proofs.lemmas.Option.{none-some, same_Some}
use Rattle.arena_rules.specs.State.{State}
use Rattle.arena_rules.specs.Moves.{alloc}
use Rattle.call_rules.specs.Machine.{Machine, Next, Contents, step, run, fresh, mark_named, is_left}
use Rattle.arena_rules.specs.Lists.{splice}
use Rattle.arena_rules.specs.Back.{back}
use Rattle.line_parts.specs.Numbers.{IsByte}
use Rattle.call_rules.specs.Grammar.{Fits, AreCalls}
use Rattle.call_rules.specs.Replies.{HasBytes}
use Rattle.call_rules.specs.declared.calls.Call.{Call}
use Rattle.call_rules.specs.declared.calls.Call.TheVariants.{Alloc, Grow, Shrink, Dealloc, Write, Read, Mark, Back, Reset, Used, Allocated}
use Rattle.call_rules.specs.declared.calls.Reply.{Reply}
use Rattle.call_rules.specs.declared.calls.Reply.TheVariants.{Bytes}
use Rattle.call_rules.proofs.CallSteps.{Leaves, Keeps, Settles, answered, told, unless, layout_given, found, marked, run_by_steps}
use Rattle.arena_rules.proofs.ListLemmas.{all_append, all_take}
use Rattle.name_map.proofs.EntryLemmas.{less_removed}

-- ---- Lists of bytes

abbrev AreBytes : List ℕ → Type 0
AreBytes bytes = AllByRecursion IsByte bytes

dropped : (n : ℕ) (xs : List ℕ) → AreBytes xs → AreBytes (drop n xs)
dropped zero xs p = p
dropped (suc n) [] p = tt
dropped (suc n) (x ∷ xs) p = dropped n xs p.1

repeated : (n fill : ℕ) → IsByte fill → AreBytes (replicate n fill)
repeated zero fill p = tt
repeated (suc n) fill p = (p, repeated n fill p)

spliced : (old new : List ℕ) (at : ℕ) → AreBytes old → AreBytes new → AreBytes (splice old at new)
spliced old new at p q =
    all_append IsByte (take at old ++ new) (drop (at + length new) old) (all_append IsByte (take at old) new (all_take IsByte at old p) q)
    (dropped (at + length new) old p)

-- ---- The bytes of the names

-- each name's bytes are below 256
abbrev HoldsBytes : Contents → Type 0
HoldsBytes contents = (name : ℕ) (bytes : List ℕ) → finite.get contents name ≡ Some bytes → AreBytes bytes

holds_none : HoldsBytes finite.empty
holds_none name bytes found = absurd (none-some bytes (rw (get-empty nat_cmp name) at found))

holds_more : (contents : Contents) (name : ℕ) (bytes : List ℕ) → HoldsBytes contents → AreBytes bytes
    → HoldsBytes (finite.insert contents name bytes)
holds_more contents name bytes held are other bs found =
    go (eq_by_cmp nat_cmp other name) (rw (get-insert nat_cmp_total contents name bytes other) at found)
  where
    go : (b : Bool) → cond b (Some bytes) (finite.get contents other) ≡ Some bs → AreBytes bs
    go true same = subst AreBytes (same_Some bytes bs same) are
    go false same = held other bs same

holds_less : (contents : Contents) (name : ℕ) → HoldsBytes contents → HoldsBytes (finite.remove contents name)
holds_less contents name held other bs found = held other bs (less_removed contents name other bs found)

holds_some : (contents : Contents) (test : ℕ → Bool) → HoldsBytes contents → HoldsBytes (finite.retain_keys contents test)
holds_some contents test held other bs found =
    go (test other) (get-retain_keys contents test other (λ x same. ap test (sym (nat_cmp-IsAntisymmetric other x same)))) found
  where
    go : (b : Bool) → finite.get (finite.retain_keys contents test) other ≡ cond b (finite.get contents other) None
        → finite.get (finite.retain_keys contents test) other ≡ Some bs → AreBytes bs
    go true is same = held other bs (sym is ∙ same)
    go false is same = absurd (none-some bs (sym is ∙ same))

-- ---- One call

abbrev GivesBytes : Next → Type 0
GivesBytes next = HasBytes next.0 × HoldsBytes next.1.bytes

module _ (k : ℕ) (m : Machine) (held : HoldsBytes m.bytes) where
  kept : Keeps GivesBytes k m
  kept = record { same = λ reply are. (are, held) }

  -- a call that gives a name these bytes, and one that leaves the others' bytes
  placed : (name size align : ℕ) (bytes : List ℕ) (state : State) → AreBytes bytes → Settles GivesBytes m k name size align bytes state
  placed name size align bytes state are = (λ addr. (tt, holds_more m.bytes name bytes held are), (tt, held))

  -- Each call whose numbers fit returns a reply with bytes below 256, and leaves such bytes.
  step_bytes : (call : Call) → Fits call → Leaves GivesBytes (step call k m)
  unfolding step
  step_bytes (Alloc name size align fill) fits =
      unless kept (finite.contains_key m.held name) _ _ tt
      (λ free. layout_given kept name _ _ false _ (alloc m.state size align k) (λ fine right o is.
      placed name size align _ o.state (repeated size fill fits.3)))
  step_bytes (Grow name size align fill) fits = found kept _ _ (λ p bs is has. layout_given kept _ _ _ _ _ _ (λ fine right o _.
      placed name size align _ o.state (all_append IsByte bs _ (held name bs has) (repeated (size - p.size) fill fits.3))))
  step_bytes (Shrink name size align) fits = found kept _ _ (λ p bs is has. layout_given kept _ _ _ _ _ _ (λ fine right o _.
      placed name size align _ o.state (all_take IsByte size bs (held name bs has))))
  step_bytes (Dealloc name) fits = found kept _ _ (λ p bs is has. answered GivesBytes k _ _ (tt, holds_less m.bytes name held))
  step_bytes (Write name at new) fits = found kept _ _ (λ p bs is has.
      unless kept (nat_lt p.size (at + length new)) _ _ tt (λ inside. answered GivesBytes k _ _
      (tt, holds_more m.bytes name (splice bs at new) held (spliced bs new at (held name bs has) fits.2))))
  step_bytes (Read name) fits = found kept _ _ (λ p bs is has. told kept (Bytes bs) (held name bs has))
  step_bytes (Mark name) fits =
      unless kept (is_some (mark_named m.marks name)) _ _ tt (λ free. answered GivesBytes k _ _ (tt, held))
  step_bytes (Back name) fits = marked kept _ _ (λ mark. answered GivesBytes k _ _
      (tt, holds_some m.bytes (is_left (back mark m.state) m.held) held))
  step_bytes Reset fits = answered GivesBytes k _ _ (tt, holds_none)
  step_bytes Used fits = answered GivesBytes k _ _ (tt, held)
  step_bytes Allocated fits = answered GivesBytes k _ _ (tt, held)

-- ---- A run

-- the replies of a run that begins with no names
pub replies_bytes : (state : State) (calls : List Call) (ks : List ℕ) (replies : List Reply) (last : Machine) → AllByRecursion Fits calls
    → run state calls ks ≡ Some (replies, last) → AllByRecursion HasBytes replies
replies_bytes state calls ks replies last fit ran =
    let all = run_by_steps (λ m calls ks. AllByRecursion Fits calls × HoldsBytes m.bytes) HasBytes
    (λ m call calls k ks next q is. let gives = (step_bytes k m q.1 call q.0.0).at next is in
    (gives.0, (q.0.1, gives.1))) (fresh state) calls ks (fit, holds_none) in
    (rw ran at all).0

-- ---- Calls that were read from a text

pub lines_fit : (lines : List (List ℕ)) (calls : List Call) → AreCalls lines calls → AllByRecursion Fits calls
lines_fit [] [] are = tt
lines_fit [] (call ∷ calls) are = absurd are
lines_fit ([] ∷ lines) calls are = lines_fit lines calls are
lines_fit ((b ∷ line) ∷ lines) [] are = absurd are
lines_fit ((b ∷ line) ∷ lines) (call ∷ calls) are = (are.0.fits, lines_fit lines calls are.1)
