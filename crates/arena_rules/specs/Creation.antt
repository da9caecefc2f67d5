-- What a new arena is.
use Rattle.std.specs.Prelude.{ℕ, zero, suc, ◌+◌, ◌==◌, true, false, if◌then◌else◌, Option, Some, None, List, [], ◌∷◌}
use Rattle.arena_rules.specs.Rounding.{is_layout}
use Rattle.arena_rules.specs.State.{State}
use Rattle.arena_rules.specs.Search.{next_base, possible, requests}
use Rattle.arena_rules.specs.Moves.{with_chunk}

-- a growing arena without a chunk
abbrev pub empty_state : ℕ → State
empty_state m = record { min_align = m; is_growing = true; generation = 0; chunks = [] }

-- an arena that doesn't grow, with one chunk of this size and nothing used
abbrev pub fixed_state : ℕ → ℕ → State
fixed_state m size =
    record { min_align = m; is_growing = false; generation = 0; chunks = record { base = 4096; size = size; cursor = 4096 + size } ∷ [] }

-- the one chunk that is asked for when an arena is created with this capacity
unfoldable pub capacity_chunk : ℕ → ℕ → Option (ℕ × ℕ)
capacity_chunk capacity align =
    if is_layout capacity align then possible (next_base 4096 align) capacity align capacity else None

-- Without a chunk to ask for there is no arena. Otherwise there is one if the request is granted, and none if not.
abbrev pub create_at : Option (ℕ × ℕ) → ℕ → ℕ → Option (Option State)
create_at None m zero = Some None
create_at None m (suc k) = None
create_at (Some entry) m zero = Some (Some (with_chunk entry (empty_state m)))
create_at (Some entry) m (suc zero) = Some None
create_at (Some entry) m (suc (suc k)) = None

-- A new arena with this capacity, or none, where k requests are refused. No step has more refusals than requests.
unfoldable pub create : ℕ → ℕ → ℕ → Option (Option State)
create m capacity k =
    if capacity == 0 then (if k == 0 then Some (Some (empty_state m)) else None) else create_at (capacity_chunk capacity m) m k

-- the requests for this chunk, if any
abbrev pub requests_for : ℕ → Option (ℕ × ℕ) → List (ℕ × ℕ)
requests_for m None = []
requests_for m (Some entry) = requests m (entry ∷ [])

unfoldable pub create_requests : ℕ → ℕ → List (ℕ × ℕ)
create_requests m capacity = if capacity == 0 then [] else requests_for m (capacity_chunk capacity m)
