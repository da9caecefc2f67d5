-- What becomes of marks as the state changes.
use Rattle.std.proofs.Common.{◌≡◌, ℕ, ◌-◌, ◌≤◌, ◌⊎◌, max, refl, arith, List, ◌∷◌, IsTrue, Some, length, inl}
use Rattle.std.proofs.lemmas.Bool.Decides.{nat_tests}
use Rattle.std.proofs.lemmas.List.{length-drop, drop-drop}
use Rattle.arena_rules.specs.State.{State, Chunk, start_of, cursor_of, top_of, is_range_used, with_newest_cursor, with_cursor}
use Rattle.arena_rules.specs.Moves.{Outcome, Resizing, alloc, resize, dealloc}
use Rattle.arena_rules.specs.Back.{Point, first_chunks, raised, back, accepts, KeepsMark}
use Rattle.arena_rules.proofs.BackLemmas.{is_mark, all_kept}
use Rattle.arena_rules.proofs.AllocLemmas.{alloc_each}

-- ---- The oldest chunks as newer ones come and go

-- The oldest n chunks are as they were; or there are no others, and the cursor moved.
abbrev StayBelow : ℕ → List Chunk → List Chunk → Type 0
StayBelow n old new = (first_chunks n new ≡ first_chunks n old)
    ⊎ ((c : ℕ) × (length new ≡ n) × (new ≡ with_newest_cursor c (first_chunks n old)))

length_first : (n : ℕ) (chunks : List Chunk) → n ≤ length chunks → length (first_chunks n chunks) ≡ n
length_first n chunks within = omega (arith, length-drop (length chunks - n) chunks)

record IsBelow (n : ℕ) (old new : List Chunk) : Type 0 where
  within : n ≤ length new
  start : start_of (first_chunks n new) ≡ start_of (first_chunks n old)
  top : top_of (first_chunks n new) ≡ top_of (first_chunks n old)
  used : (c addr k : ℕ) → IsTrue (is_range_used new addr k) → IsTrue (is_range_used (raised c (first_chunks n old)) addr k)
      → IsTrue (is_range_used (raised c (first_chunks n new)) addr k)

is_below : (n : ℕ) (old new : List Chunk) → n ≤ length old → StayBelow n old new → IsBelow n old new
is_below n old new within stay = grind (arith, nat_tests, length_first, all_kept)

-- ---- A mark

mark_kept : (mark : Point) (state : State) (chunks : List Chunk) → IsTrue (accepts mark state)
    → StayBelow mark.chunks state.chunks chunks → KeepsMark mark state (record state { chunks = chunks })
mark_kept mark state chunks holds stay =
    let below = is_below mark.chunks state.chunks chunks (is_mark mark state holds).within stay in
    grind (arith, nat_tests)

-- ---- One call

moved_below : (n c : ℕ) (old : List Chunk) → n ≤ length old → StayBelow n old (with_newest_cursor c old)
moved_below n c old within = grind (arith, nat_tests)

grown_below : (n : ℕ) (chunk : Chunk) (old : List Chunk) → n ≤ length old → StayBelow n old (chunk ∷ old)
grown_below n chunk old within = grind (arith, nat_tests)

pub still_keeps : (mark : Point) (state : State) → IsTrue (accepts mark state) → KeepsMark mark state state
still_keeps mark state holds = mark_kept mark state state.chunks holds (inl refl)

cursor_keeps : (mark : Point) (state : State) (p : ℕ) → IsTrue (accepts mark state) → KeepsMark mark state (with_cursor p state)
cursor_keeps mark state p holds =
    mark_kept mark state (with_newest_cursor p state.chunks) holds (moved_below mark.chunks p _ (is_mark mark state holds).within)

chunk_keeps : (mark : Point) (state : State) (chunk : Chunk) → IsTrue (accepts mark state)
    → KeepsMark mark state (record state { chunks = chunk ∷ state.chunks })
chunk_keeps mark state chunk holds =
    mark_kept mark state (chunk ∷ state.chunks) holds (grown_below mark.chunks chunk state.chunks (is_mark mark state holds).within)

pub alloc_keeps : (mark : Point) (state : State) (size align k : ℕ) (outcome : Outcome) → IsTrue (accepts mark state)
    → alloc state size align k ≡ Some outcome
    → KeepsMark mark state outcome.state
alloc_keeps mark state size align k outcome holds =
    alloc_each (λ (o : Outcome). KeepsMark mark state o.state) state size align k outcome (λ p found. cursor_keeps mark state p holds)
    (λ e p none found there. chunk_keeps mark state (record { base = e.0; size = e.1; cursor = p }) holds)
    (λ none all. still_keeps mark state holds)

pub resize_keeps : (mark : Point) (way : Resizing) (state : State) (p size align k : ℕ) (outcome : Outcome) → IsTrue (accepts mark state)
    → resize way state p size align k ≡ Some outcome → KeepsMark mark state outcome.state
resize_keeps mark way state p size align k outcome holds step =
    grind (arith, nat_tests, still_keeps mark state, cursor_keeps mark state, alloc_keeps mark state size align k outcome)

pub dealloc_keeps_mark : (mark : Point) (state : State) (p size : ℕ) → IsTrue (accepts mark state)
    → KeepsMark mark state (dealloc state p size)
unfolding dealloc
dealloc_keeps_mark mark state p size holds = grind (arith, nat_tests, still_keeps mark state, cursor_keeps mark state)

-- ---- Going back to a newer mark

raised_is : (c : ℕ) (chunks : List Chunk) → raised c chunks ≡ with_newest_cursor (max (cursor_of chunks) c) chunks
raised_is c chunks = grind arith

back_below : (n : ℕ) (mark : Point) (chunks : List Chunk) → n ≤ mark.chunks → mark.chunks ≤ length chunks
    → StayBelow n chunks (raised mark.cursor (first_chunks mark.chunks chunks))
back_below n mark chunks below within = grind (arith, nat_tests, length_first, drop-drop, raised_is, moved_below)

-- Going back to a newer mark keeps an older one.
pub back_keeps : (older newer : Point) (state : State) → older.chunks ≤ newer.chunks → IsTrue (accepts older state)
    → IsTrue (accepts newer state)
    → KeepsMark older state (back newer state)
back_keeps older newer state below holds newer_holds =
    mark_kept older state (raised newer.cursor (first_chunks newer.chunks state.chunks)) holds
    (back_below older.chunks newer state.chunks below (is_mark newer state newer_holds).within)
