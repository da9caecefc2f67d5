-- What calls by name count.
use Rattle.std.specs.Prelude.{ℕ, Bool, true, false, if◌then◌else◌, List, [], ◌∷◌}
use Rattle.std.specs.FinMap as map
use Rattle.std.specs.Option.{option_map_or}
use Rattle.arena_rules.specs.Moves.{growing, shrinking}
use Rattle.arena_rules.specs.Statistics.{Statistics, uncounted, one_allocation, resized}
use Rattle.arena_rules.specs.State.{State}
use Rattle.arena_rules.specs.declared.place.Place.{Place}
use Rattle.call_rules.specs.Machine.{Machine, Next, step, fresh, is_reset}
use Rattle.call_rules.specs.declared.calls.Call.{Call}
use Rattle.call_rules.specs.declared.calls.Call.TheVariants.{Alloc, Grow, Shrink}
use Rattle.call_rules.specs.declared.calls.Reply.{Reply}
use Rattle.call_rules.specs.declared.calls.Reply.TheVariants.{Placed}

-- a call on a block that returned its place
abbrev pub placed_by : Call → Machine → Statistics → Statistics
placed_by (Alloc name size align fill) m s = one_allocation s
placed_by (Grow name size align fill) m s =
    option_map_or (λ (p : Place). resized (growing m.state p.addr p.size p.align size align) s) (map.get m.held name) s
placed_by (Shrink name size align) m s =
    option_map_or (λ (p : Place). resized (shrinking m.state p.addr p.size p.align size align) s) (map.get m.held name) s
placed_by call m s = s

-- the reply has a place
abbrev pub is_placed : Reply → Bool
is_placed (Placed addr refused) = true
is_placed reply = false

-- A call that returns a place counts its block, and a reset starts again at 0.
abbrev pub call_statistics : Call → Reply → Machine → Statistics → Statistics
call_statistics call reply m s = if is_reset call then uncounted else (if is_placed reply then placed_by call m s else s)

-- the counts of a run: call after call
unfoldable pub statistics_from : Machine → List Call → List ℕ → Statistics → Statistics
statistics_from m [] ks s = s
statistics_from m (call ∷ calls) [] s = s
statistics_from m (call ∷ calls) (k ∷ ks) s =
    option_map_or (λ (next : Next). statistics_from next.1 calls ks (call_statistics call next.0 m s)) (step call k m) s

-- A run begins with no names.
abbrev pub statistics_of : State → List Call → List ℕ → Statistics → Statistics
statistics_of state calls ks s = statistics_from (fresh state) calls ks s
