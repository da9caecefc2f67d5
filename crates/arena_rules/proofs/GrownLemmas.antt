-- What becomes of the chunks in an allocation, and when an allocation fails.
use Rattle.arena_rules.proofs.CursorLemmas.{floor_near}
use Rattle.std.proofs.lemmas.Bool.Decides.{nat_tests}
use Rattle.std.proofs.Common.{◌≡◌, ℕ, ◌+◌, ◌-◌, ◌<◌, ◌≤◌, arith, IsTrue, Some, None, length, map}
use Rattle.std.proofs.lemmas.List.Sums.{sum_by-cons}
use Rattle.arena_rules.specs.Rounding.{is_power}
use Rattle.arena_rules.specs.State.{State, Chunk, IsValid, floor_of, used_bytes, with_cursor}
use Rattle.arena_rules.specs.Search.{place, next_base, asked}
use Rattle.arena_rules.specs.Moves.{Outcome, alloc, with_chunk, dealloc}
use Rattle.arena_rules.specs.Used.{unit_of}
use Rattle.arena_rules.specs.Asking.{HasGrown}
use Rattle.arena_rules.proofs.RoundingLemmas.{up_close}
use Rattle.arena_rules.proofs.AllocLemmas.{entry_of, growing_of, alloc_each}
use Rattle.arena_rules.proofs.AskedSizeLemmas.{all_asked, chunk_align_small}
use Rattle.arena_rules.proofs.ListLemmas.{all_get}

-- ---- What becomes of the chunks

pub grown_not : (state : State) → HasGrown state state
grown_not state = record { allocated = omega arith; top = omega arith }

pub grown_then : (a b c : State) → HasGrown a b → HasGrown b c → HasGrown a c
grown_then a b c one two = record { allocated = omega (arith, one.allocated, two.allocated); top = omega (arith, one.top, two.top) }

-- another cursor
pub cursor_grown : (p : ℕ) (state : State) → HasGrown state (with_cursor p state)
cursor_grown p state = record { allocated = grind arith; top = grind arith }

-- one more chunk
chunk_grown : (state : State) (e : ℕ × ℕ) (p : ℕ) → e.0 < floor_of state.chunks + 16 → 16320 ≤ e.1
    → HasGrown state (with_cursor p (with_chunk e state))
chunk_grown state e p near large =
    let more = sum_by-cons (λ (n : ℕ). n) e.1 (map (λ (c : Chunk). c.size) state.chunks) in
    omega (arith, floor_near state.chunks)

-- a block that is given back
pub dealloc_grown : (state : State) (p size : ℕ) → HasGrown state (dealloc state p size)
unfolding dealloc
dealloc_grown state p size = grind (arith, nat_tests, cursor_grown, grown_not)

-- An allocation moves a cursor, perhaps in one more chunk, or fails.
pub alloc_grown : (state : State) (size align k : ℕ) (outcome : Outcome) → IsValid state → IsTrue (is_power align) → align ≤ 16
    → alloc state size align k ≡ Some outcome → HasGrown state outcome.state
alloc_grown state size align k outcome valid power small =
    alloc_each (λ (o : Outcome). HasGrown state o.state) state size align k outcome (λ p found. cursor_grown p state)
    (λ e p none found there.
    let entry = entry_of state size align k e (growing_of state size align k e found) power found in
    let near : next_base (floor_of state.chunks) align < floor_of state.chunks + 16 =
    rw (chunk_align_small align small) (up_close (floor_of state.chunks) 16 (omega arith)) in
    let size_is = all_get _ (asked state size align) k e
    (all_asked state size align (used_bytes state + size + (unit_of state align - 1)) valid none small (omega arith)) found in
    chunk_grown state e p (omega (arith, entry.based, near)) size_is.0)
    (λ none all. grown_not state)

-- ---- Where all are refused

-- an allocation that fails had no place, and all that were asked for were refused
pub record IsFailed (state : State) (size align k : ℕ) : Type 0 where
  pub none : place state size align ≡ None
  pub all : k ≡ length (asked state size align)

pub alloc_failed : (state new : State) (size align k : ℕ) → IsValid state → IsTrue (is_power align)
    → alloc state size align k ≡ Some (record { answer = None; state = new }) → IsFailed state size align k
unfolding alloc
alloc_failed state new size align k valid power step = grind (arith, nat_tests)
