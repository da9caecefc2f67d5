-- Computed examples of the rules.
use Rattle.std.proofs.Common.{◌≡◌, ℕ, ◌+◌, ◌-◌, ◌*◌, ◌^◌, true, Option, Some, None, List, [], ◌∷◌, false, arith}
use Rattle.std.specs.Option.{option_map}
use Rattle.arena_rules.specs.Rounding.{up, down, is_power_among}
use Rattle.arena_rules.specs.State.{State, Chunk, used_bytes}
use Rattle.arena_rules.specs.Search.{place_below, doubled, power_at_least, size_for, halves, possible, entries, asked_above, asked, requests}
use Rattle.arena_rules.specs.Moves.{Outcome, alloc, dealloc, shrink, shrinking, grow, growing, stays, placed, fails, with_chunk}
use Rattle.arena_rules.specs.Moves.Resizing.{Moves, Anew}
use Rattle.arena_rules.specs.Creation.{empty_state, fixed_state, capacity_chunk, create, create_requests}
use Rattle.arena_rules.specs.Used.{taken}
use Rattle.arena_rules.specs.Doubling.{IsDoubling, is_made_first}

-- with the first chunk, and the cursor there
abbrev first_chunk : ℕ → State
first_chunk p = record { min_align = 1; is_growing = true; generation = 0; chunks = record { base = 4096; size = 16320; cursor = p } ∷ [] }

-- the same with a least alignment of 16
abbrev units_chunk : ℕ → State
units_chunk p = record (first_chunk p) { min_align = 16 }

-- what a list of allocations returns, where each first request is granted
abbrev follow : Option Outcome → (State → List (Option ℕ)) → List (Option ℕ)
follow None next = []
follow (Some outcome) next = outcome.answer ∷ next outcome.state

abbrev places : List (ℕ × ℕ) → State → List (Option ℕ)
places [] state = []
places (layout ∷ rest) state = follow (alloc state layout.0 layout.1 0) (places rest)

-- the used bytes after a move that has a step
abbrev used_after : Option Outcome → Option ℕ
used_after = option_map (λ (o : Outcome). used_bytes o.state)

-- the chunks after a first block of 5 bytes and a second one that the first chunk has no room for
abbrev two_chunks : List Chunk
two_chunks =
    record { base = 20464; size = 32704; cursor = 36848 } ∷ record { base = 4096; size = 16320; cursor = 20411 } ∷ []

-- what the rules give
record Rows : Type 0 where
  -- ---- The bump step
  aligned_place : place_below 4096 8192 32 1 1 ≡ Some 8160
  rounded_place : place_below 4096 4151 16 8 1 ≡ Some 4128
  no_room_once_rounded : place_below 4112 4115 4 16 1 ≡ None
  no_room_below_small_addresses : place_below 16 48 4 64 1 ≡ None
  empty_place_in_full_chunk : place_below 4096 4096 0 1 1 ≡ Some 4096
  size_past_the_cursor : place_below 4096 4096 (2 ^ 63 - 15) 1 16 ≡ None
  -- ---- Allocations
  first_block : alloc (empty_state 1) 5 1 0 ≡ Some (placed (first_chunk 20416) 20411)
  -- without a chunk, an empty block is at 16
  empty_block : alloc (empty_state 1) 0 16 0 ≡ Some (stays (empty_state 1) 16)
  -- first a chunk of more than twice the newest one's size is asked for, and then half of that
  second_chunk_asked : asked (first_chunk 20288) 16320 1 ≡ (20464, 32704) ∷ (20464, 16320) ∷ []
  largest_layout_asks_nothing : asked (empty_state 1) 9223372036854775807 1 ≡ []
  largest_layout_fails : alloc (empty_state 1) 9223372036854775807 1 0 ≡ Some (fails (empty_state 1))
  largest_alignment_asks_nothing : asked (empty_state 1) 0 9223372036854775808 ≡ []
  -- chunks at multiples of a large alignment, until none is left below the last address
  large_alignments :
      places ((0, 2 ^ 62) ∷ (1, 1) ∷ (0, 2 ^ 62) ∷ (1, 1) ∷ (0, 2 ^ 62) ∷ (1, 1) ∷ (0, 2 ^ 62) ∷ []) (empty_state 1)
      ≡ Some (2 ^ 62) ∷ Some (2 ^ 62 + 49071) ∷ Some (2 ^ 63) ∷ Some (2 ^ 63 + 196527) ∷ Some (3 * 2 ^ 62)
      ∷ Some (3 * 2 ^ 62 + 786351) ∷ None ∷ []
  -- ---- Sizes of chunks
  size_below_a_page : size_for 10 10 1 ≡ Some 64
  size_of_pages : size_for 4095 1 1 ≡ Some 8128
  size_of_more_pages : size_for 16321 1 1 ≡ Some 20416
  -- ---- Blocks that shrink, grow and are given back
  shrink_by_less_than_half : shrink (first_chunk 20316) 20316 100 1 51 1 0 ≡ Some (stays (first_chunk 20316) 20316)
  shrink_by_half : shrink (first_chunk 20316) 20316 100 1 50 1 0 ≡ Some (placed (first_chunk 20316) 20366)
  grow_downwards : grow (first_chunk 20406) 20406 10 1 11 1 0 ≡ Some (placed (first_chunk 20406) 20405)
  give_back_the_last_block : dealloc (first_chunk 20412) 20412 4 ≡ first_chunk 20416
  -- ---- A new arena
  room_for_ten_bytes : create 1 10 0 ≡ Some (Some (with_chunk (4096, 64) (empty_state 1)))
  room_requested : create_requests 1 10 ≡ (64, 16) ∷ []
  room_refused : create 1 10 1 ≡ Some None
  no_second_request : create 1 10 2 ≡ None
  room_that_no_layout_has : create 1 (2 ^ 63) 0 ≡ Some None
  room_for_nothing : create 1 0 0 ≡ Some (Some (empty_state 1))
  -- an arena that doesn't grow fills its one chunk, and then fails
  fills_a_fixed_chunk : places ((64, 1) ∷ (1, 1) ∷ []) (fixed_state 1 64) ≡ Some 4096 ∷ None ∷ []
  -- ---- How chunks grow
  second_block : alloc (first_chunk 20411) 16320 1 0
      ≡ Some (record { answer = Some 36848; state = record (first_chunk 20411) { chunks = two_chunks } })
  made_at_the_first_size : is_made_first (first_chunk 20411) 16320 1 0 ≡ true
  made_at_a_smaller_size : is_made_first (first_chunk 20411) 16320 1 1 ≡ false
  -- the second is at least twice the first
  two_chunks_double : IsDoubling 16320 two_chunks
  -- ---- What becomes of a block that is resized
  -- a block that grows is placed again only where it has no room to grow in place
  grows_in_place : growing (first_chunk 20406) 20406 10 1 11 1 ≡ Moves 20405
  grows_elsewhere : growing (first_chunk 20406) 20406 10 1 16321 1 ≡ Anew
  -- and one that shrinks only for a greater alignment
  shrinks_in_place : shrinking (first_chunk 20406) 20406 10 1 5 1 ≡ Moves 20411
  shrinks_elsewhere : shrinking (first_chunk 20406) 20406 10 1 5 4 ≡ Anew
  -- ---- Used bytes after allocations
  in_the_first_chunk : used_after (alloc (empty_state 1) 5 1 0) ≡ Some 5
  -- 3 addresses more, to align the place
  aligned_below_the_cursor : used_after (alloc (first_chunk 20411) 8 8 0) ≡ Some 16
  takes_eleven : taken 20411 8 8 ≡ 11
  -- at a multiple of the least alignment
  whole_units : used_after (alloc (units_chunk 20416) 5 1 0) ≡ Some 16
  -- ---- After blocks grow
  by_one : used_after (grow (first_chunk 20406) 20406 10 1 11 1 0) ≡ Some 11
  by_one_to_the_next_multiple : used_after (grow (first_chunk 20408) 20408 8 8 9 8 0) ≡ Some 16
  -- from 16 used bytes for 5 to 48 for 17: the new size is rounded up, and so is the place
  both_rounded : used_after (grow (units_chunk 20400) 20400 5 1 17 1 0) ≡ Some 48
  -- ---- After blocks shrink and are given back
  to_half : used_after (shrink (first_chunk 20316) 20316 100 1 50 1 0) ≡ Some 50
  -- from 96 used bytes to 41, rounded up to a multiple of the alignment
  to_the_next_multiple : used_after (shrink (first_chunk 20320) 20320 96 8 41 8 0) ≡ Some 48
  less_than_half_stays : used_after (shrink (first_chunk 20320) 20320 96 8 49 8 0) ≡ Some 96
  given_back_with_its_padding : used_bytes (dealloc (units_chunk 20400) 20400 5) ≡ 0

rows : Rows
unfolding alloc asked asked_above entries possible halves size_for is_power_among power_at_least doubled up down shrink grow dealloc
    create capacity_chunk create_requests requests
rows = grind arith
