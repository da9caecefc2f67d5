-- What each call does to the chunks, where the source refuses k requests during the call.
use Rattle.std.specs.Prelude.{ℕ, ◌+◌, ◌-◌, ◌*◌, ◌%◌, ◌^◌, min, max, nat_le, nat_lt, ◌==◌, ◌&&◌, if◌then◌else◌, Option, Some, None, List, [], ◌∷◌, length, slice_get}
use Rattle.std.specs.Option.{option_map}
use Rattle.arena_rules.specs.Rounding.{down, up, is_layout}
use Rattle.arena_rules.specs.State.{State, Chunk, cursor_of, data_end, with_cursor, with_newest_cursor}
use Rattle.arena_rules.specs.Search.{place, asked, alloc_requests}

-- What a call returns (an address, or none if it fails), and the state that it leaves.
pub record Outcome : Type 0 where
  pub answer : Option ℕ
  pub state : State

-- the block is at p, and so is the cursor
abbrev pub placed : State → ℕ → Outcome
placed state p = record { answer = Some p; state = with_cursor p state }

-- the block is at p, and no cursor moved
abbrev pub stays : State → ℕ → Outcome
stays state p = record { answer = Some p; state = state }

abbrev pub fails : State → Outcome
fails state = record { answer = None; state = state }

-- a call that makes no request has a step only where k is 0
abbrev pub unasked : ℕ → Outcome → Option Outcome
unasked k outcome = if k == 0 then Some outcome else None

-- a chunk with nothing used becomes the newest
abbrev pub with_chunk : ℕ × ℕ → State → State
with_chunk entry state =
    record state { chunks = record { base = entry.0; size = entry.1; cursor = entry.0 + entry.1 } ∷ state.chunks }

-- in a new chunk, or a failure if all requests were refused
abbrev pub alloc_in_new : Option (ℕ × ℕ) → State → ℕ → ℕ → ℕ → Option Outcome
alloc_in_new (Some entry) state size align k =
    option_map (placed (with_chunk entry state)) (place (with_chunk entry state) size align)
alloc_in_new None state size align k = if k == length (asked state size align) then Some (fails state) else None

abbrev pub alloc_at : Option ℕ → State → ℕ → ℕ → ℕ → Option Outcome
alloc_at (Some p) state size align k = unasked k (placed state p)
alloc_at None state size align k = alloc_in_new (slice_get (asked state size align) k) state size align k

-- A new block. There is no step where more are refused than asked for.
unfoldable pub alloc : State → ℕ → ℕ → ℕ → Option Outcome
alloc state size align k = alloc_at (place state size align) state size align k

-- Gives back a block at p of this size. The cursor moves only if the block is at it.
unfoldable pub dealloc : State → ℕ → ℕ → State
dealloc state p size = if p == cursor_of state.chunks then with_cursor (up (p + size) state.min_align) state else state

-- ---- A block that is resized

-- What becomes of it: it stays where it is, it moves to an address together with the cursor, it is allocated again, or
-- the call is refused without a request.
pub data Resizing : Type 0 where
  Stays : Resizing
  Moves : ℕ → Resizing
  Anew : Resizing
  Refused : Resizing

-- how many more addresses a block needs below it to grow in place
abbrev pub growth : State → ℕ → ℕ → ℕ
growth state size new_size = up new_size state.min_align - size

-- down to this place, if there is one, and otherwise a new allocation
abbrev pub down_to : Option ℕ → Resizing
down_to (Some q) = Moves q
down_to None = Anew

-- A block grows in place, downwards, only if it is at the cursor, its alignment doesn't rise and there is room below
-- it; any other is allocated again. A growth that isn't a valid layout is refused at once.
abbrev pub growing : State → ℕ → ℕ → ℕ → ℕ → ℕ → Resizing
growing state p size align new_size new_align =
    if nat_le new_align align && p == cursor_of state.chunks
    then (if is_layout (growth state size new_size) align then down_to (place state (growth state size new_size) align) else Refused)
    else Anew

-- how far a block moves up when it shrinks
abbrev pub shrink_step : State → ℕ → ℕ → ℕ → ℕ
shrink_step state size new_size new_align = down (size - new_size) (max new_align state.min_align)

-- A block that shrinks is allocated again only if its address isn't a multiple of a greater alignment. Otherwise it
-- stays, unless it is at the cursor and at least half of it can be given back: then it moves up.
abbrev pub shrinking : State → ℕ → ℕ → ℕ → ℕ → ℕ → Resizing
shrinking state p size align new_size new_align =
    if nat_lt align new_align
    then (if p % new_align == 0 then Stays else Anew)
    else (if p == cursor_of state.chunks && nat_le size (2 * shrink_step state size new_size new_align)
    then Moves (p + shrink_step state size new_size new_align) else Stays)

-- Resizes the block at p to a layout.
abbrev pub resize : Resizing → State → ℕ → ℕ → ℕ → ℕ → Option Outcome
resize Stays state p size align k = unasked k (stays state p)
resize (Moves q) state p size align k = unasked k (placed state q)
resize Anew state p size align k = alloc state size align k
resize Refused state p size align k = unasked k (fails state)

unfoldable pub shrink : State → ℕ → ℕ → ℕ → ℕ → ℕ → ℕ → Option Outcome
shrink state p size align new_size new_align k =
    resize (shrinking state p size align new_size new_align) state p new_size new_align k

unfoldable pub grow : State → ℕ → ℕ → ℕ → ℕ → ℕ → ℕ → Option Outcome
grow state p size align new_size new_align k =
    resize (growing state p size align new_size new_align) state p new_size new_align k

-- the layout that is allocated again, if the block is
abbrev pub anew : Resizing → ℕ × ℕ → Option (ℕ × ℕ)
anew Anew layout = Some layout
anew Stays layout = None
anew (Moves q) layout = None
anew Refused layout = None

-- ---- All blocks

-- the newest chunk, with nothing used
abbrev pub emptied : List Chunk → List Chunk
emptied [] = []
emptied (newest ∷ older) = record newest { cursor = data_end newest } ∷ []

abbrev pub reset : State → State
reset state = record state { generation = min (state.generation + 1) (2 ^ 64 - 1); chunks = emptied state.chunks }

-- the newest chunk's cursor is at this address, and a new generation begins
abbrev pub set_cursor : ℕ → State → State
set_cursor p state = record state { generation = min (state.generation + 1) (2 ^ 64 - 1); chunks = with_newest_cursor p state.chunks }

-- ---- What a move asks the source for

-- the requests for this layout, if any, where k are refused
abbrev pub requests_anew : Option (ℕ × ℕ) → State → ℕ → List (ℕ × ℕ)
requests_anew None state k = []
requests_anew (Some layout) state k = alloc_requests state layout.0 layout.1 k

-- the requests of a call that resizes a block to this layout
abbrev pub resize_requests : Resizing → State → ℕ → ℕ → ℕ → List (ℕ × ℕ)
resize_requests way state size align k = requests_anew (anew way (size, align)) state k
