-- What calls by name allocate, and so what they ask the source for.
use Rattle.std.specs.Prelude.{ℕ, nat_lt, Bool, false, ◌&&◌, ◌||◌, not, if◌then◌else◌, Option, Some, None, List, [], ◌∷◌, ◌++◌, length}
use Rattle.std.specs.FinMap as map
use Rattle.std.specs.Option.{is_some, is_none, option_and_then, option_map_or}
use Rattle.arena_rules.specs.Rounding.{is_layout}
use Rattle.arena_rules.specs.State.{State}
use Rattle.arena_rules.specs.Moves.{Resizing, growing, shrinking, anew, requests_anew}
use Rattle.call_rules.specs.Machine.{Machine, Next, step, fresh, mark_named}
use Rattle.arena_rules.specs.declared.place.Place.{Place}
use Rattle.call_rules.specs.declared.calls.Call.{Call}
use Rattle.call_rules.specs.declared.calls.Call.TheVariants.{Alloc, Grow, Shrink, Read, Mark}

-- the layout that a resize allocates, unless `wrong`: the size is too small for a grow, or too large for a shrink
abbrev pub resized_anew : Resizing → ℕ → ℕ → Bool → Option (ℕ × ℕ)
resized_anew way size align wrong = if is_layout size align && not wrong then anew way (size, align) else None

-- the layout that a call allocates, if any
unfoldable pub placed_anew : Call → Machine → Option (ℕ × ℕ)
placed_anew (Alloc name size align fill) m =
    if map.contains_key m.held name then None else (if is_layout size align then Some (size, align) else None)
placed_anew (Grow name size align fill) m = option_and_then {U = ℕ × ℕ} (λ (p : Place).
    resized_anew (growing m.state p.addr p.size p.align size align) size align (nat_lt size p.size)) (map.get m.held name)
placed_anew (Shrink name size align) m = option_and_then {U = ℕ × ℕ} (λ (p : Place).
    resized_anew (shrinking m.state p.addr p.size p.align size align) size align (nat_lt p.size size)) (map.get m.held name)
placed_anew call m = None

-- the requests of a call, where k are refused
abbrev pub call_requests : Call → ℕ → Machine → List (ℕ × ℕ)
call_requests call k m = requests_anew (placed_anew call m) m.state k

-- the requests of a run: call after call
unfoldable pub requests_from : Machine → List Call → List ℕ → List (ℕ × ℕ)
requests_from m [] ks = []
requests_from m (call ∷ calls) [] = []
requests_from m (call ∷ calls) (k ∷ ks) =
    call_requests call k m ++ option_map_or (λ (next : Next). requests_from next.1 calls ks) (step call k m) []

-- A run begins without names.
abbrev pub requests_of : State → List Call → List ℕ → List (ℕ × ℕ)
requests_of state calls ks = requests_from (fresh state) calls ks

-- a call that returns the bytes of a block
abbrev pub reads : Call → Machine → Bool
reads (Read name) m = map.contains_key m.held name
reads call m = false

-- a call that resizes a block
abbrev pub resizes : Call → Machine → Bool
resizes (Grow name size align fill) m =
    option_map_or (λ (p : Place). is_layout size align && not (nat_lt size p.size)) (map.get m.held name) false
resizes (Shrink name size align) m =
    option_map_or (λ (p : Place). is_layout size align && not (nat_lt p.size size)) (map.get m.held name) false
resizes call m = false

-- A call that notes something outside the arena: one that sets a mark, or resizes a block while there is a mark.
abbrev pub notes : Call → Machine → Bool
notes (Mark name) m = is_none (mark_named m.marks name)
notes call m = nat_lt 0 (length m.marks) && resizes call m

-- A call that can run out of memory: one that allocates a block, returns bytes, or notes something.
abbrev pub takes_memory : Call → Machine → Bool
takes_memory call m = is_some (placed_anew call m) || reads call m || notes call m
