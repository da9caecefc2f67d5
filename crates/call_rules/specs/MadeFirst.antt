-- Calls by name that make no chunk, or make it at the first size that is tried.
use Rattle.std.specs.Prelude.{ℕ, Bool, true, ◌&&◌, List, [], ◌∷◌}
use Rattle.std.specs.Option.{option_map_or}
use Rattle.arena_rules.specs.Doubling.{is_anew_made_first}
use Rattle.arena_rules.specs.State.{State}
use Rattle.call_rules.specs.Machine.{Machine, Next, step, fresh}
use Rattle.call_rules.specs.Requests.{placed_anew}
use Rattle.call_rules.specs.declared.calls.Call.{Call}

-- A call in which k are refused makes no chunk, or makes it at the first size that is tried.
abbrev pub call_made_first : Call → ℕ → Machine → Bool
call_made_first call k m = is_anew_made_first m.state (placed_anew call m) k

-- the same for each call of a run
unfoldable pub made_first_from : Machine → List Call → List ℕ → Bool
made_first_from m [] ks = true
made_first_from m (call ∷ calls) [] = true
made_first_from m (call ∷ calls) (k ∷ ks) =
    call_made_first call k m && option_map_or (λ (next : Next). made_first_from next.1 calls ks) (step call k m) true

-- A run begins without names.
abbrev pub made_first : State → List Call → List ℕ → Bool
made_first state calls ks = made_first_from (fresh state) calls ks
