-- How chunks grow: each is at least twice as large as the one made before it.
use Rattle.std.specs.Prelude.{ℕ, ◌*◌, ◌≤◌, max, ◌==◌, Bool, true, ◌&&◌, ◌||◌, Option, List, [], ◌∷◌, slice_get}
use Rattle.std.specs.Option.{is_some, is_none, option_map_or}
use Rattle.arena_rules.specs.State.{State, Chunk, newest_size, floor_of}
use Rattle.arena_rules.specs.Search.{place, possible, next_base, least_size, asked}
use Rattle.arena_rules.specs.Moves.{Resizing, anew}

-- Each chunk has at least z bytes, and at least twice those of the one made before it. For z = 0: plain doubling.
abbrev pub IsDoubling : ℕ → List Chunk → Type 0
IsDoubling z [] = Unit {0}
IsDoubling z (newest ∷ older) = (max z (2 * newest_size older) ≤ newest.size) × IsDoubling z older

-- the size of the chunk that was made first; 0 where there is none
abbrev pub oldest_size : List Chunk → ℕ
oldest_size [] = 0
oldest_size (chunk ∷ []) = chunk.size
oldest_size (chunk ∷ (next ∷ older)) = oldest_size (next ∷ older)

-- the possible chunk for the first size that is tried
abbrev pub first_entry : State → ℕ → ℕ → Option (ℕ × ℕ)
first_entry state size align =
    possible (next_base (floor_of state.chunks) align) size align (max (least_size size) (2 * newest_size state.chunks))

-- An allocation in which k are refused makes no chunk, or makes it at the first size that is tried.
abbrev pub is_made_first : State → ℕ → ℕ → ℕ → Bool
is_made_first state size align k =
    is_some (place state size align) || is_none (slice_get (asked state size align) k) || (k == 0 && is_some (first_entry state size align))

-- the same for an allocation of this layout, if there is one
abbrev pub is_anew_made_first : State → Option (ℕ × ℕ) → ℕ → Bool
is_anew_made_first state layout k = option_map_or (λ (l : ℕ × ℕ). is_made_first state l.0 l.1 k) layout true

-- the same for a call that resizes a block to this layout
abbrev pub is_resize_made_first : Resizing → State → ℕ → ℕ → ℕ → Bool
is_resize_made_first way state size align k = is_anew_made_first state (anew way (size, align)) k
