-- Chunks that double.
use Rattle.std.proofs.lemmas.Bool.Decides.{nat_tests}
use Rattle.std.proofs.Common.{◌≡◌, ℕ, ◌+◌, ◌-◌, ◌*◌, ◌^◌, ◌≤◌, max, arith, IsTrue, Some, List, [], ◌∷◌, length, true, ap, sum, map}
use Rattle.std.specs.Prelude.{slice_get}
use Rattle.std.proofs.lemmas.List.Sums.{sum_by-cons}
use Rattle.std.proofs.lemmas.Nat.{pow_pos}
use Rattle.std.proofs.Math.Nat.{pow-suc}
use Rattle.arena_rules.specs.State.{State, Chunk, newest_size, allocated_bytes, with_newest_cursor}
use Rattle.arena_rules.specs.Search.{possible, entries, asked, asked_above}
use Rattle.arena_rules.specs.Moves.{Outcome, Resizing, alloc, grow, growing, shrink, shrinking, resize, dealloc, reset, emptied}
use Rattle.arena_rules.specs.Doubling.{IsDoubling, oldest_size, first_entry, is_made_first, is_resize_made_first}
use Rattle.arena_rules.proofs.RoundingLemmas.{up_ge}
use Rattle.arena_rules.proofs.SearchLemmas.{halves_first, size_is}
use Rattle.arena_rules.proofs.EntryLemmas.{possible_is}
use Rattle.arena_rules.proofs.AllocLemmas.{growing_of}
use Rattle.arena_rules.proofs.ResetLemmas.{reset_allocated}

-- ---- How much there is

abbrev total : List Chunk → ℕ
total chunks = sum (map (λ (c : Chunk). c.size) chunks)

-- a sum of sizes, the newest chunk's first
total_more : (newest : Chunk) (older : List Chunk) → total (newest ∷ older) ≡ newest.size + total older
total_more newest older = sum_by-cons (λ (n : ℕ). n) newest.size (map (λ (c : Chunk). c.size) older)

-- the next chunk has z bytes, doubled for each chunk before it, or more
doubled_floor : (z : ℕ) (chunks : List Chunk) → IsDoubling z chunks → z * 2 ^ length chunks ≤ max z (2 * newest_size chunks)
doubled_floor z [] double = omega arith
doubled_floor z (newest ∷ older) double =
    omega (arith, ap (λ (p : ℕ). z * p) (pow-suc 2 (length older)), doubled_floor z older double.1, double.0)

-- all chunks together have z bytes, doubled for each chunk, less z, or more
doubled_sum : (z : ℕ) (chunks : List Chunk) → IsDoubling z chunks → z * 2 ^ length chunks ≤ z + total chunks
doubled_sum z [] double = omega arith
doubled_sum z (newest ∷ older) double =
    let twice = ap (λ (p : ℕ). z * p) (pow-suc 2 (length older)) in
    omega (arith, total_more newest older, doubled_floor z older double.1, doubled_sum z older double.1, double.0)

-- all chunks together have at least z bytes for each number below 2 ^ n, where n is their number
pub doubling_sum : (z : ℕ) (state : State) → IsDoubling z state.chunks → z * (2 ^ length state.chunks - 1) ≤ allocated_bytes state
doubling_sum z state double =
    let one : 2 ^ length state.chunks ≡ 2 ^ length state.chunks - 1 + 1 = omega (arith, pow_pos (length state.chunks)) in
    omega (arith, doubled_sum z state.chunks double, ap (λ (p : ℕ). z * p) one)

-- chunks that double have at least as many bytes each as the one made first
oldest_doubling : (chunks : List Chunk) → IsDoubling 0 chunks → IsDoubling (oldest_size chunks) chunks
oldest_doubling [] double = double
oldest_doubling (newest ∷ older) double = grind (arith, nat_tests, oldest_doubling older double.1)

-- so all chunks together have at least its bytes for each number below 2 ^ n
pub doubling_oldest : (state : State) → IsDoubling 0 state.chunks
    → oldest_size state.chunks * (2 ^ length state.chunks - 1) ≤ allocated_bytes state
doubling_oldest state double = doubling_sum (oldest_size state.chunks) state (oldest_doubling state.chunks double)

-- the newest chunk has at least half of all bytes
pub doubling_newest : (z : ℕ) (state : State) → IsDoubling z state.chunks → allocated_bytes state ≤ 2 * newest_size state.chunks
doubling_newest z state double = go state.chunks double
  where
    go : (chunks : List Chunk) → IsDoubling z chunks → total chunks ≤ 2 * newest_size chunks
    go [] fine = omega arith
    go (newest ∷ older) fine = grind (arith, total_more newest older, go older fine.1)

-- ---- What a reset leaves

-- the newest chunk alone is doubling
pub doubling_emptied : (z : ℕ) (chunks : List Chunk) → IsDoubling z chunks → IsDoubling z (emptied chunks)
doubling_emptied z chunks double = grind (arith, nat_tests)

-- it has at least half of all bytes
pub doubling_kept : (z : ℕ) (state : State) → IsDoubling z state.chunks → allocated_bytes state ≤ 2 * allocated_bytes (reset state)
doubling_kept z state double = omega (arith, reset_allocated state, doubling_newest z state double)

-- ---- One call

-- another cursor changes no size, so chunks stay doubling
pub doubling_moved : (z p : ℕ) (chunks : List Chunk) → IsDoubling z chunks → IsDoubling z (with_newest_cursor p chunks)
doubling_moved z p chunks double = grind (arith, nat_tests)

-- a possible chunk has its tried size or more
possible_ge : (base size align tried : ℕ) (e : ℕ × ℕ) → 4096 ≤ tried → possible base size align tried ≡ Some e → tried ≤ e.1
possible_ge base size align tried e large is =
    let sized = size_is tried size align e.1 (possible_is base size align tried e is).0 in grind (arith, nat_tests, up_ge)

-- the chunk of the first size that is tried, where it is possible, is the first one that is asked for
pub first_asked : (state : State) (size align : ℕ) (e : ℕ × ℕ) → state.is_growing ≡ true → first_entry state size align ≡ Some e
    → slice_get (asked state size align) 0 ≡ Some e
unfolding asked asked_above entries
first_asked state size align e growing first = grind (arith, nat_tests, halves_first)

-- ---- Each call

-- an allocation that makes no chunk or makes it first
pub alloc_doubling : (z : ℕ) (state : State) (size align k : ℕ) (outcome : Outcome) → z ≤ 16320 → IsDoubling z state.chunks
    → IsTrue (is_made_first state size align k)
    → alloc state size align k ≡ Some outcome → IsDoubling z outcome.state.chunks
unfolding alloc
alloc_doubling z state size align k outcome small double made step =
    grind (arith, nat_tests, doubling_moved, first_asked, growing_of, possible_ge)

-- a block that is resized
pub resize_doubling : (z : ℕ) (way : Resizing) (state : State) (p size align k : ℕ) (outcome : Outcome) → z ≤ 16320
    → IsDoubling z state.chunks → IsTrue (is_resize_made_first way state size align k)
    → resize way state p size align k ≡ Some outcome → IsDoubling z outcome.state.chunks
resize_doubling z way state p size align k outcome small double made step =
    grind (arith, nat_tests, doubling_moved, alloc_doubling z state size align k outcome)

-- a block that grows
pub grow_doubling : (z : ℕ) (state : State) (p size align new_size new_align k : ℕ) (outcome : Outcome) → z ≤ 16320
    → IsDoubling z state.chunks
    → IsTrue (is_resize_made_first (growing state p size align new_size new_align) state new_size new_align k)
    → grow state p size align new_size new_align k ≡ Some outcome → IsDoubling z outcome.state.chunks
unfolding grow
grow_doubling z state p size align new_size new_align k outcome = resize_doubling z _ state p new_size new_align k outcome

-- a block that shrinks
pub shrink_doubling : (z : ℕ) (state : State) (p size align new_size new_align k : ℕ) (outcome : Outcome) → z ≤ 16320
    → IsDoubling z state.chunks
    → IsTrue (is_resize_made_first (shrinking state p size align new_size new_align) state new_size new_align k)
    → shrink state p size align new_size new_align k ≡ Some outcome → IsDoubling z outcome.state.chunks
unfolding shrink
shrink_doubling z state p size align new_size new_align k outcome = resize_doubling z _ state p new_size new_align k outcome

-- a block that is given back
pub dealloc_doubling : (z p size : ℕ) (state : State) → IsDoubling z state.chunks → IsDoubling z (dealloc state p size).chunks
unfolding dealloc
dealloc_doubling z p size state double = grind (arith, nat_tests, doubling_moved)
