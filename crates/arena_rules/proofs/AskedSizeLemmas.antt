-- How large the chunks are that an allocation asks for, and when it asks for one.
use Rattle.arena_rules.proofs.RoundingLemmas.{up_least, down_close, up_ge, up_close}
use Rattle.std.proofs.Common.{◌≡◌, ℕ, zero, suc, ◌+◌, ◌-◌, ◌*◌, ◌/◌, ◌^◌, ◌<◌, ◌≤◌, max, sym, refl, arith, IsTrue, Some, None, Option, List, [], ◌∷◌, length, map, sum, true, false}
use Rattle.std.specs.List.{filter_map, AllByRecursion}
use Rattle.std.proofs.lemmas.Bool.Decides.{nat_tests}
use Rattle.std.proofs.lemmas.List.Sums.{sum_by-cons}
use Rattle.std.proofs.Math.Nat.{pow-suc}
use Rattle.arena_rules.specs.Rounding.{up, is_layout, is_power_among}
use Rattle.arena_rules.specs.State.{State, Chunk, AreChunks, IsValid, start_of, cursor_of, top_of, floor_of, newest_size, used_length, used_bytes, allocated_bytes}
use Rattle.arena_rules.specs.Search.{place, halves, possible, entries, rounded_size, chunk_align, next_base, least_size, asked, asked_above, requests, alloc_requests, requests_at}
use Rattle.arena_rules.specs.Used.{unit_of}
use Rattle.arena_rules.specs.Asking.{IsRequestWithin, most_asked}
use Rattle.arena_rules.proofs.ListLemmas.{all_filtered, all_take, all_map, all_weaker}
use Rattle.arena_rules.proofs.SizeLemmas.{size_some}
use Rattle.arena_rules.proofs.SearchLemmas.{size_is, possible_some}
use Rattle.arena_rules.proofs.EntryLemmas.{possible_is, all_halves}
use Rattle.arena_rules.proofs.CursorLemmas.{floor_near}

-- ---- Chunks that are asked for

-- a chunk of at least `least` bytes, and of at most `most`
abbrev IsBetween : ℕ → ℕ → ℕ × ℕ → Type 0
IsBetween least most e = (least ≤ e.1) × (e.1 ≤ most)

pub chunk_align_small : (align : ℕ) → align ≤ 16 → chunk_align align ≡ 16
chunk_align_small align small = omega arith

between : (base size align least most tried : ℕ) (e : ℕ × ℕ) → align ≤ 16 → 4096 ≤ least → size ≤ most → (least ≤ tried) × (tried ≤ most)
    → possible base size align tried ≡ Some e → IsBetween least (most + 4110) e
between base size align least most tried e small large fits bounds is =
    let sized = size_is tried size align e.1 (possible_is base size align tried e is).0 in
    grind (arith, nat_tests, up_close, up_ge, chunk_align_small)

all_entries : (base size align first least : ℕ) → align ≤ 16 → 4096 ≤ least → size ≤ first
    → AllByRecursion (IsBetween least (first + 4110)) (entries base size align first least)
unfolding entries
all_entries base size align first least small large fits =
    all_filtered (possible base size align) _ (IsBetween least (first + 4110))
    (λ tried e. between base size align least first tried e small large fits) _ (all_halves 64 first least first (omega arith))

-- ---- Where there is no place

-- the newest chunk's bytes from its cursor on are in use
newest_used : (m : ℕ) (chunks : List Chunk) → AreChunks m chunks
    → newest_size chunks + start_of chunks ≤ sum (map used_length chunks) + cursor_of chunks
newest_used m [] valid = omega arith
newest_used m (newest ∷ older) valid =
    omega (arith, sum_by-cons (λ (n : ℕ). n) (used_length newest) (map used_length older), valid.0)

-- The newest chunk has fewer bytes than are in use and requested, with the padding.
pub newest_short : (state : State) (size align : ℕ) → IsValid state → place state size align ≡ None
    → newest_size state.chunks < used_bytes state + size + (unit_of state align - 1)
newest_short state size align valid none = grind (arith, nat_tests, down_close, newest_used state.min_align state.chunks valid.chunks)

-- An arena that doesn't grow has one chunk.
pub one_chunk : (state : State) → IsValid state → state.is_growing ≡ false → allocated_bytes state ≡ newest_size state.chunks
one_chunk state valid still = grind (arith, still, valid.kind)

-- ---- What is asked for

pub all_asked : (state : State) (size align bytes : ℕ) → IsValid state → place state size align ≡ None → align ≤ 16
    → used_bytes state + size + (unit_of state align - 1) ≤ bytes
    → AllByRecursion (IsBetween 16320 (most_asked bytes)) (asked state size align)
unfolding asked asked_above
all_asked state size align bytes valid none small fits = grind (arith, nat_tests, newest_short, all_entries, all_weaker)

-- Each request of an allocation is for at most `most_asked bytes`, at alignment 16.
pub all_requests : (state : State) (size align k bytes : ℕ) → IsValid state → align ≤ 16
    → used_bytes state + size + (unit_of state align - 1) ≤ bytes
    → AllByRecursion (IsRequestWithin (most_asked bytes)) (alloc_requests state size align k)
unfolding requests
all_requests state size align k bytes valid small fits = go (place state size align) refl
  where
    go : (spot : Option ℕ) → place state size align ≡ spot
        → AllByRecursion (IsRequestWithin (most_asked bytes)) (requests_at spot align k (asked state size align))
    go (Some p) found = tt
    go None none =
        let all = all_take _ (k + 1) (asked state size align) (all_asked state size align bytes valid none small fits) in
        all_map (λ (e : ℕ × ℕ). (e.1, chunk_align align)) _ (IsRequestWithin _) (λ e b. (b.1, chunk_align_small align small)) _ all

pub layout_at : (align n : ℕ) → align ≡ 16 → n + 16 ≤ 2 ^ 63 → IsTrue (is_layout n align)
unfolding is_power_among
layout_at align n is fits = grind (arith, nat_tests, up_close)

-- a chunk of this many bytes is possible where it ends below the last address
pub possible_at : (base size align m : ℕ) → align ≤ 16 → size ≤ m → 4096 ≤ m → m + 64 ≤ 2 ^ 63 → base + m + 4158 ≤ 2 ^ 64 - 1
    → (e : ℕ × ℕ) × (possible base size align m ≡ Some e)
possible_at base size align m small large fits few low =
    let padded : (up size (max align 16) ≤ 2 ^ 63 - 64) × (up size (max align 16) < size + 16) = rw (chunk_align_small align small)
    (up_least size 16 (2 ^ 63 - 64) (omega arith) refl (omega arith), up_close size 16 (omega arith)) in
    let w : ℕ = max m (up size (max align 16)) in
    let n : ℕ = up (w + 64) 4096 - 64 in
    let above = up_ge (w + 64) 4096 (omega arith) in
    let close = up_close (w + 64) 4096 (omega arith) in
    let below = up_least (w + 64) 4096 (2 ^ 63) (omega arith) refl (omega arith) in
    let rounded : rounded_size w ≡ Some n = grind (arith, nat_tests) in
    let layout = layout_at (max align 16) (n + 48) (chunk_align_small align small) (omega arith) in
    ((base, n), sym (possible_some base size align m n (size_some m size align w n refl rounded layout) (omega arith)))

-- ---- When something is asked for

-- if some tried size is possible, something is asked for
some_possible : (h : ℕ → Option (ℕ × ℕ)) (least : ℕ) → ((m : ℕ) → least ≤ m → m < 2 * least → (e : ℕ × ℕ) × (h m ≡ Some e))
    → (t n : ℕ) → 0 < least → least ≤ n → n < 2 ^ t → 0 < length (filter_map h (halves t n least))
unfolding halves
some_possible h least can zero n some enough short = absurd (omega arith)
some_possible h least can (suc t) n some enough short =
    grind (arith, nat_tests, can n, some_possible h least can t (n / 2), pow-suc 2 t)

-- So a growing arena asks for something.
pub asks_some : (state : State) (size align : ℕ) → IsValid state → state.is_growing ≡ true → align ≤ 16 → size ≤ 2 ^ 60
    → top_of state.chunks ≤ 2 ^ 63 + 2 ^ 62 → 0 < length (asked state size align)
unfolding asked asked_above entries
asks_some state size align valid growing small bounded low =
    let base : ℕ = next_base (floor_of state.chunks) align in
    let near : base < floor_of state.chunks + 16
    = rw (chunk_align_small align small) (up_close (floor_of state.chunks) 16 (omega arith)) in
    let newest : newest_size state.chunks < 2 ^ 63 = grind (arith, valid.chunks) in
    rw growing (some_possible (possible base size align) (least_size size)
    (λ m from to. possible_at base size align m small (omega arith) (omega arith) (omega arith) (omega (arith, floor_near state.chunks)))
    64 _ (omega arith) (omega arith) (omega arith))
