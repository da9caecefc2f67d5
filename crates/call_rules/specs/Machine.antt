-- The placement machine: calls by name, one after another, each given the number of its requests that were refused.
use Rattle.std.specs.Prelude.{◌≡◌, ◌≢◌, ℕ, ◌+◌, ◌-◌, ◌%◌, nat_lt, ◌==◌, Bool, true, false, not, if◌then◌else◌, Option, Some, None, List, [], ◌∷◌, ◌++◌, length, take, replicate, map, IsTrue}
use Rattle.std.specs.Ordering.{nat_cmp}
use Rattle.std.specs.Option.{is_some, option_map, option_map_or, option_and_then}
use Rattle.std.specs.FinMap as map
use Rattle.arena_rules.specs.Rounding.{is_layout}
use Rattle.arena_rules.specs.State.{State, used_bytes, allocated_bytes, is_place_used, AreApart}
use Rattle.arena_rules.specs.Lists.{splice}
use Rattle.arena_rules.specs.Back.{Point, mark_of, back}
use Rattle.arena_rules.specs.Moves.{Outcome, alloc, grow, shrink, dealloc, reset}
use Rattle.arena_rules.specs.declared.place.Place.{Place}
use Rattle.call_rules.specs.declared.calls.Call.{Call}
use Rattle.call_rules.specs.declared.calls.Call.TheVariants.{Alloc, Grow, Shrink, Dealloc, Write, Read, Mark, Back, Reset, Used, Allocated}
use Rattle.call_rules.specs.declared.calls.Reply.{Reply}
use Rattle.call_rules.specs.declared.calls.Reply.TheVariants.{Placed, Done, Bytes, Number, AllocErr, NoSuchName, NameTaken, BadLayout, OutOfRange}

-- the places of the blocks that names hold, and the bytes of each name's block
abbrev pub Held : Type 0
Held = map.FinMap nat_cmp Place

abbrev pub Contents : Type 0
Contents = map.FinMap nat_cmp (List ℕ)

-- the marks that were set, each with its name, newest first
abbrev pub Marks : Type 0
Marks = List (ℕ × Point)

pub record Machine : Type 0 where
  pub state : State
  pub held : Held
  pub bytes : Contents
  pub marks : Marks

-- a machine without names and marks
abbrev pub fresh : State → Machine
fresh state = record { state = state; held = map.empty; bytes = map.empty; marks = [] }

-- ---- Marks

-- the mark of a name, if there is one
abbrev pub mark_named : Marks → ℕ → Option Point
mark_named [] name = None
mark_named (mark ∷ older) name = if mark.0 == name then Some mark.1 else mark_named older name

-- the name's mark, and those that are older
abbrev pub marks_to : Marks → ℕ → Marks
marks_to [] name = []
marks_to (mark ∷ older) name = if mark.0 == name then mark ∷ older else marks_to older name

-- the name's block has no bytes, or is in the used part of one chunk of the state
abbrev pub is_left : State → Held → ℕ → Bool
is_left state held name = option_map_or (is_place_used state) (map.get held name) false

-- The machine at a name's mark: blocks that aren't in what remains are removed, and so are newer marks.
abbrev pub goes_back : Machine → Point → ℕ → Machine
goes_back m mark name = record {
  state = back mark m.state;
  held = map.retain_keys m.held (is_left (back mark m.state) m.held);
  bytes = map.retain_keys m.bytes (is_left (back mark m.state) m.held);
  marks = marks_to m.marks name;
}

-- ---- One call

-- the reply of a call, and the machine after it
abbrev pub Next : Type 0
Next = Reply × Machine

-- a call that makes no request has a step only where k is 0
abbrev pub answers : ℕ → Reply → Machine → Option Next
answers k reply m = if k == 0 then Some (reply, m) else None

-- the name holds this place, with these bytes
abbrev pub holds : Machine → State → ℕ → Place → List ℕ → Machine
holds m state name place bytes = record m { state = state; held = map.insert m.held name place; bytes = map.insert m.bytes name bytes }

-- the name no longer holds anything
abbrev pub lets_go : Machine → State → ℕ → Machine
lets_go m state name = record m { state = state; held = map.remove m.held name; bytes = map.remove m.bytes name }

-- the reply of a call that places a block, by where the block is placed
abbrev pub settles : Machine → ℕ → ℕ → ℕ → ℕ → List ℕ → State → Option ℕ → Next
settles m k name size align bytes state (Some addr) =
    (Placed addr k, holds m state name (record { addr = addr; size = size; align = align }) bytes)
settles m k name size align bytes state None = (AllocErr k, record m { state = state })

-- A block is given a layout, with these bytes, unless `wrong`: the size is too small for a grow, or too large for a
-- shrink.
abbrev pub gives_layout : Machine → ℕ → ℕ → ℕ → ℕ → Bool → List ℕ → Option Outcome → Option Next
gives_layout m k name size align wrong bytes outcome =
    if not (is_layout size align) then answers k BadLayout m
    else (if wrong then answers k OutOfRange m
    else option_map (λ (o : Outcome). settles m k name size align bytes o.state o.answer) outcome)

-- a call on the block of a name
abbrev pub at_found : Option Place → Option (List ℕ) → Option Next → (Place → List ℕ → Option Next) → Option Next
at_found (Some place) (Some bytes) missing go = go place bytes
at_found (Some place) None missing go = None
at_found None bytes missing go = missing

abbrev pub at_name : Machine → ℕ → ℕ → (Place → List ℕ → Option Next) → Option Next
at_name m name k go = at_found (map.get m.held name) (map.get m.bytes name) (answers k NoSuchName m) go

-- a call on the mark of a name
abbrev pub at_mark : Option Point → Option Next → (Point → Option Next) → Option Next
at_mark None missing go = missing
at_mark (Some mark) missing go = go mark

-- The reply of a call, where k of its requests were refused, and the machine after it. Refusals are checked in the
-- order of the cases.
unfoldable pub step : Call → ℕ → Machine → Option Next
step (Alloc name size align fill) k m =
    if map.contains_key m.held name then answers k NameTaken m
    else gives_layout m k name size align false (replicate size fill) (alloc m.state size align k)
step (Grow name size align fill) k m = at_name m name k (λ place bytes.
    gives_layout m k name size align (nat_lt size place.size) (bytes ++ replicate (size - place.size) fill)
    (grow m.state place.addr place.size place.align size align k))
step (Shrink name size align) k m = at_name m name k (λ place bytes.
    gives_layout m k name size align (nat_lt place.size size) (take size bytes)
    (shrink m.state place.addr place.size place.align size align k))
step (Dealloc name) k m =
    at_name m name k (λ place bytes. answers k Done (lets_go m (dealloc m.state place.addr place.size) name))
step (Write name at new) k m = at_name m name k (λ place bytes.
    if nat_lt place.size (at + length new) then answers k OutOfRange m
    else answers k Done (record m { bytes = map.insert m.bytes name (splice bytes at new) }))
step (Read name) k m = at_name m name k (λ place bytes. answers k (Bytes bytes) m)
step (Mark name) k m =
    if is_some (mark_named m.marks name) then answers k NameTaken m
    else answers k Done (record m { marks = (name, mark_of m.state) ∷ m.marks })
step (Back name) k m =
    at_mark (mark_named m.marks name) (answers k NoSuchName m) (λ mark. answers k Done (goes_back m mark name))
step Reset k m = answers k Done (fresh (reset m.state))
step Used k m = answers k (Number (used_bytes m.state)) m
step Allocated k m = answers k (Number (allocated_bytes m.state)) m

-- ---- A whole run

-- a reply before those of the calls that follow
abbrev pub reply_first : Reply → List Reply × Machine → List Reply × Machine
reply_first reply rest = (reply ∷ rest.0, rest.1)

-- The replies of the calls and the machine after them, if each call has a step for its number.
unfoldable pub run_from : Machine → List Call → List ℕ → Option (List Reply × Machine)
run_from m [] [] = Some ([], m)
run_from m [] (k ∷ ks) = None
run_from m (call ∷ calls) [] = None
run_from m (call ∷ calls) (k ∷ ks) =
    option_and_then (λ next. option_map (reply_first next.0) (run_from next.1 calls ks)) (step call k m)

-- A run begins with no names and no marks.
abbrev pub run : State → List Call → List ℕ → Option (List Reply × Machine)
run state calls ks = run_from (fresh state) calls ks

-- the refusals that a reply reports
abbrev pub refused_of : Reply → ℕ
refused_of (Placed addr refused) = refused
refused_of (AllocErr refused) = refused
refused_of reply = 0

abbrev pub told : List Reply → List ℕ
told replies = map refused_of replies

-- a call that gives all blocks back
abbrev pub is_reset : Call → Bool
is_reset Reset = true
is_reset call = false

-- ---- How held blocks relate to each other and to the state

-- Each held block is aligned and in the used part of a chunk, and no two have an address in common.
pub record IsSound (state : State) (held : Held) : Type 0 where
  pub aligned : (name : ℕ) (p : Place) → map.get held name ≡ Some p → p.addr % p.align ≡ 0
  pub used : (name : ℕ) (p : Place) → map.get held name ≡ Some p → IsTrue (is_place_used state p)
  pub apart : (m n : ℕ) (p q : Place) → m ≢ n → map.get held m ≡ Some p → map.get held n ≡ Some q
      → AreApart p.addr p.size q.addr q.size
