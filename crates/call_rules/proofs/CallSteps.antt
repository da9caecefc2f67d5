-- What holds after a call by name, and after a run of calls.
use Rattle.std.proofs.Common.{◌≡◌, ℕ, Bool, true, false, Option, Some, None, List, [], ◌∷◌, refl, subst}
use Rattle.std.specs.Prelude.{IfSome, not, if◌then◌else◌, ◌==◌}
use Rattle.std.specs.List.{AllByRecursion}
use Rattle.std.specs.Option.{option_map, option_and_then}
use Rattle.std.proofs.lemmas.Bool.{not-false}
use Rattle.std.proofs.lemmas.Option.{none-some, same_Some, cond_some}
use Rattle.std.specs.FinMap.{get}
use Rattle.arena_rules.specs.Back.{Point}
use Rattle.arena_rules.specs.Moves.{Outcome}
use Rattle.arena_rules.specs.Rounding.{is_layout}
use Rattle.arena_rules.specs.State.{State}
use Rattle.arena_rules.specs.declared.place.Place.{Place}
use Rattle.call_rules.specs.Machine.{Machine, Next, answers, settles, gives_layout, holds, at_found, at_name, at_mark, step, run_from, reply_first}
use Rattle.call_rules.specs.Replies.{HasBytes}
use Rattle.call_rules.specs.declared.calls.Call.{Call}
use Rattle.call_rules.specs.declared.calls.Reply.{Reply}
use Rattle.call_rules.specs.declared.calls.Reply.TheVariants.{Placed, AllocErr, NoSuchName, BadLayout, OutOfRange}

-- P of what a call leaves, if it has a step
pub record Leaves (P : Next → Type 0) (o : Option Next) : Type 0 where
  pub at : (next : Next) → o ≡ Some next → P next

-- P of each reply that leaves the machine as it is
pub record Keeps (P : Next → Type 0) (k : ℕ) (m : Machine) : Type 0 where
  pub same : (reply : Reply) → HasBytes reply → P (reply, m)

-- what a call that places a block leaves: P where there is a place, and where there is none
abbrev pub Settles : (Next → Type 0) → Machine → ℕ → ℕ → ℕ → ℕ → List ℕ → State → Type 0
Settles P m k name size align bytes state =
    ((addr : ℕ) → P (Placed addr k, holds m state name (record { addr = addr; size = size; align = align }) bytes))
    × P (AllocErr k, record m { state = state })

-- a call that makes no request
pub answered : (P : Next → Type 0) (k : ℕ) (reply : Reply) (after : Machine) → P (reply, after) → Leaves P (answers k reply after)
answered P k reply after is = record { at = λ next at. subst P (cond_some (k == 0) (reply, after) next at).1 is }

module _ {P : Next → Type 0} {k : ℕ} {m : Machine} (s : Keeps P k m) where
  pub told : (reply : Reply) → HasBytes reply → Leaves P (answers k reply m)
  told reply plain = answered P k reply m (s.same reply plain)

  -- a call that may be refused at once
  pub unless : (refused : Bool) (reply : Reply) (go : Option Next) → HasBytes reply → (refused ≡ false → Leaves P go)
      → Leaves P (if refused then answers k reply m else go)
  unless true reply go plain each = told reply plain
  unless false reply go plain each = each refl

  -- a call that places a block
  settled : (name size align : ℕ) (bytes : List ℕ) (o : Option Outcome)
      → ((outcome : Outcome) → o ≡ Some outcome → Settles P m k name size align bytes outcome.state)
      → Leaves P (option_map (λ (o : Outcome). settles m k name size align bytes o.state o.answer) o)
  settled name size align bytes None each = record { at = λ next at. absurd (none-some next at) }
  settled name size align bytes (Some o) each =
      let both = each o refl in
      let all = elim o.answer as (λ p. P (settles m k name size align bytes o.state p)) [ Some addr ↦ both.0 addr | None ↦ both.1 ] in
      record { at = λ next at. subst P (same_Some _ next at) all }

  -- a call that gives a block a layout
  pub layout_given : (name size align : ℕ) (wrong : Bool) (bytes : List ℕ) (o : Option Outcome)
      → (is_layout size align ≡ true → wrong ≡ false → (outcome : Outcome) → o ≡ Some outcome
      → Settles P m k name size align bytes outcome.state)
      → Leaves P (gives_layout m k name size align wrong bytes o)
  layout_given name size align wrong bytes o each = unless (not (is_layout size align)) BadLayout _ tt (λ fine.
      unless wrong OutOfRange _ tt (λ right. settled name size align bytes o (each (not-false (is_layout size align) fine) right)))

  -- a call on the block of a name
  pub found : (name : ℕ) (go : Place → List ℕ → Option Next)
      → ((p : Place) (bs : List ℕ) → get m.held name ≡ Some p → get m.bytes name ≡ Some bs → Leaves P (go p bs))
      → Leaves P (at_name m name k go)
  found name go = by (get m.held name) (get m.bytes name)
    where
      by : (place : Option Place) (bytes : Option (List ℕ))
          → ((p : Place) (bs : List ℕ) → place ≡ Some p → bytes ≡ Some bs → Leaves P (go p bs))
          → Leaves P (at_found place bytes (answers k NoSuchName m) go)
      by (Some p) (Some bs) each = each p bs refl refl
      by (Some p) None each = record { at = λ next at. absurd (none-some next at) }
      by None bytes each = told NoSuchName tt

  -- a call on the mark of a name
  pub marked : (mark : Option Point) (go : Point → Option Next) → ((p : Point) → Leaves P (go p))
      → Leaves P (at_mark mark (answers k NoSuchName m) go)
  marked None go each = told NoSuchName tt
  marked (Some p) go each = each p

-- What each step keeps, a run keeps: Q of the machine and the calls that are left, and R of each reply.
pub run_by_steps : (Q : Machine → List Call → List ℕ → Type 0) (R : Reply → Type 0)
    → ((m : Machine) (call : Call) (calls : List Call) (k : ℕ) (ks : List ℕ) (next : Next) → Q m (call ∷ calls) (k ∷ ks)
    → step call k m ≡ Some next → R next.0 × Q next.1 calls ks)
    → (m : Machine) (calls : List Call) (ks : List ℕ) → Q m calls ks
    → IfSome (run_from m calls ks) (λ ran. AllByRecursion R ran.0 × Q ran.1 [] [])
unfolding run_from
run_by_steps Q R one m [] [] q = (tt, q)
run_by_steps Q R one m [] (k ∷ ks) q = tt
run_by_steps Q R one m (call ∷ calls) [] q = tt
run_by_steps Q R one m (call ∷ calls) (k ∷ ks) q = by (step call k m) refl (λ next. run_by_steps Q R one next.1 calls ks)
  where
    by : (o : Option Next) → step call k m ≡ o
        → ((next : Next) → Q next.1 calls ks → IfSome (run_from next.1 calls ks) (λ ran. AllByRecursion R ran.0 × Q ran.1 [] []))
        → IfSome (option_and_then (λ next. option_map (reply_first next.0) (run_from next.1 calls ks)) o)
        (λ ran. AllByRecursion R ran.0 × Q ran.1 [] [])
    by None is more = tt
    by (Some next) is more =
        let first = one m call calls k ks next q is in
        elim (run_from next.1 calls ks) as (λ o. IfSome o (λ ran. AllByRecursion R ran.0 × Q ran.1 [] [])
        → IfSome (option_map (reply_first next.0) o) (λ ran. AllByRecursion R ran.0 × Q ran.1 [] [])) [
          | Some ran ↦ λ h. ((first.0, h.0), h.1)
          | None ↦ λ h. tt
        ] (more next first.1)
