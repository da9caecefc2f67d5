-- When a growing arena asks for a chunk for a block of any size: it has few bytes, and its newest data end is low.
use Rattle.arena_rules.proofs.AskedSizeLemmas.{possible_at, chunk_align_small}
use Rattle.std.proofs.Common.{◌≡◌, ℕ, suc, ◌+◌, ◌*◌, ◌^◌, ◌<◌, ◌≤◌, max, arith, Some, Option, List, [], ◌∷◌, length, map, sum, true}
use Rattle.std.specs.List.{filter_map}
use Rattle.std.proofs.lemmas.Bool.Decides.{nat_tests}
use Rattle.std.proofs.lemmas.List.Sums.{sum_by-cons}
use Rattle.arena_rules.specs.State.{State, Chunk, IsValid, top_of, floor_of, newest_size, allocated_bytes}
use Rattle.arena_rules.specs.Search.{halves, possible, entries, next_base, least_size, asked, asked_above}
use Rattle.arena_rules.proofs.RoundingLemmas.{up_close}
use Rattle.arena_rules.proofs.CursorLemmas.{floor_near}

-- what is tried first is asked for, if it is possible
first_asked : (h : ℕ → Option (ℕ × ℕ)) (least n t : ℕ) (e : ℕ × ℕ) → least ≤ n → h n ≡ Some e
    → 0 < length (filter_map h (halves (suc t) n least))
unfolding halves
first_asked h least n t e enough is = grind (arith, nat_tests)

newest_few : (chunks : List Chunk) → newest_size chunks ≤ sum (map (λ (c : Chunk). c.size) chunks)
newest_few [] = omega arith
newest_few (newest ∷ older) = omega (arith, sum_by-cons (λ (n : ℕ). n) newest.size (map (λ (c : Chunk). c.size) older))

pub asks_any : (state : State) (size align : ℕ) → IsValid state → state.is_growing ≡ true → align ≤ 16 → size + 64 ≤ 2 ^ 63
    → allocated_bytes state < 2 ^ 60 → top_of state.chunks ≤ 2 ^ 62 + 2 ^ 61 → 0 < length (asked state size align)
unfolding asked asked_above entries
asks_any state size align valid growing small fits few low =
    let base : ℕ = next_base (floor_of state.chunks) align in
    let near : base < floor_of state.chunks + 16
    = rw (chunk_align_small align small) (up_close (floor_of state.chunks) 16 (omega arith)) in
    let newest = newest_few state.chunks in
    let first : ℕ = max (least_size size) (2 * newest_size state.chunks) in
    let e = possible_at base size align first small (omega arith) (omega arith) (omega arith) (omega (arith, floor_near state.chunks)) in
    rw growing (first_asked (possible base size align) (least_size size) first 63 e.0 (omega arith) e.1)
