-- What a cursor counts of its chunk.
use Rattle.std.proofs.Common.{◌≡◌, ℕ, ◌+◌, ◌-◌, ◌^◌, ◌<◌, ◌≤◌, ap, arith, IsTrue, ◌∷◌, []}
use Rattle.std.proofs.lemmas.Bool.Decides.{nat_tests}
use Rattle.arena_rules.specs.State.{used_bytes, allocated_bytes}
use Rattle.arena_rules.specs.Moves.{emptied, with_chunk}
use Rattle.arena_rules.specs.Creation.{empty_state}
use Rattle.arena_cursor.specs.Steps.{is_valid, arena_of}
use Rattle.arena_cursor.specs.Growing.{is_region}
use Rattle.arena_cursor.specs.declared.cursor.Cursor.{Cursor}
use Rattle.arena_cursor.proofs.PlaceLemmas.{valid_is, moved_valid}

pub record IsRegion (base n m : ℕ) : Type 0 where
  pub positive : 0 < base
  pub end : base + n ≤ 2 ^ 64 - 1

pub region_is : (base n m : ℕ) → IsTrue (is_region base n m) → IsRegion base n m
region_is base n m is = record { positive = grind (arith, nat_tests); end = grind (arith, nat_tests) }

pub entered : (base n m : ℕ) → (arena_of (record { start = base; cursor = base + n; end = base + n; min_align = m })).chunks
    ≡ (with_chunk (base, n) (empty_state m)).chunks
entered base n m = ap (λ (k : ℕ). record { base = base; size = k; cursor = base + n } ∷ []) {y = n} (omega arith)

pub entered_valid : (base n m : ℕ) → IsTrue (is_region base n m)
    → IsTrue (is_valid (record { start = base; cursor = base + n; end = base + n; min_align = m }))
entered_valid base n m is = grind (arith, nat_tests)

pub reset_is : (at : Cursor) → IsTrue (is_valid at)
    → (arena_of (record at { cursor = at.end })).chunks ≡ emptied (arena_of at).chunks
reset_is at valid =
    let low = (valid_is at valid).low in
    let high = (valid_is at valid).high in
    ap (λ (n : ℕ). record { base = at.start; size = at.end - at.start; cursor = n } ∷ []) {y = at.start + (at.end - at.start)}
    (omega (arith, low, high))

pub reset_valid : (at : Cursor) → IsTrue (is_valid at) → IsTrue (is_valid (record at { cursor = at.end }))
reset_valid at valid =
    let is = valid_is at valid in moved_valid at at.end is (omega (arith, is.low, is.high)) (omega arith) is.whole_end

pub used_is : (at : Cursor) → IsTrue (is_valid at) → at.end - at.cursor ≡ used_bytes (arena_of at)
used_is at valid = let is = valid_is at valid in omega (arith, is.low, is.high)

pub data_is : (at : Cursor) → at.end - at.start ≡ allocated_bytes (arena_of at)
data_is at = omega arith

pub ruleset count_laws = (valid_is, region_is, entered, entered_valid, reset_is, reset_valid, used_is, data_is)
