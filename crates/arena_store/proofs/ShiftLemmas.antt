-- A range of a list moved to another place of it, part by part.
use Rattle.std.proofs.lemmas.Bool.Decides.{nat_tests}
use Rattle.std.proofs.Common.{◌≡◌, ℕ, ◌+◌, ◌-◌, ◌<◌, ◌≤◌, ap, sym, ◌∙◌, arith, List, length, take, drop, get_or}
use native.Mathlib.Numerals.{unary_clauses}
use Rattle.std.proofs.lemmas.Bool.{cases_lt}
use Rattle.std.proofs.lemmas.Grind.{common_steps, same_number_lists}
use Rattle.std.proofs.lemmas.Simd.{put_chunk_is}
use Rattle.std.specs.Simd.Lanes.{put_chunk, chunk}
use Rattle.arena_rules.specs.Lists.{splice}
use Rattle.arena_region.specs.Bytes.{written_from}
use Rattle.arena_store.proofs.BytesLemmas.{length-splice}
use Rattle.arena_store.proofs.WrittenFrom.{written_spliced}

-- a list after n of its bytes were moved
abbrev pub moved : List ℕ → ℕ → ℕ → ℕ → List ℕ
moved xs from to n = splice xs to (take n (drop from xs))

-- A part within a list has its full length.
length-part : (xs : List ℕ) (from n : ℕ) → from + n ≤ length xs → length (take n (drop from xs)) ≡ n
length-part xs from n fits = grind (arith, common_steps)

-- The items below, in and after a replaced range, and in a part, by index.
spliced_below : (xs new : List ℕ) (at i : ℕ) → at + length new ≤ length xs → i < at → get_or (splice xs at new) i 0 ≡ get_or xs i 0
spliced_below xs new at i fits below = grind (arith, common_steps)

spliced_in : (xs new : List ℕ) (at i : ℕ) → at + length new ≤ length xs → at ≤ i → i < at + length new
    → get_or (splice xs at new) i 0 ≡ get_or new (i - at) 0
spliced_in xs new at i fits low high = grind (arith, common_steps)

spliced_past : (xs new : List ℕ) (at i : ℕ) → at + length new ≤ length xs → at + length new ≤ i
    → get_or (splice xs at new) i 0 ≡ get_or xs i 0
spliced_past xs new at i fits past = grind (arith, common_steps)

part_index : (xs : List ℕ) (from n i : ℕ) → from + n ≤ length xs → i < n → get_or (take n (drop from xs)) i 0 ≡ get_or xs (from + i) 0
part_index xs from n i fits inside = grind (arith, common_steps)

ruleset by_index = (length-part, spliced_below, spliced_in, spliced_past, part_index)

-- A move keeps the length.
length-moved : (xs : List ℕ) (from to n : ℕ) → from + n ≤ length xs → to + n ≤ length xs → length (moved xs from to n) ≡ length xs
length-moved xs from to n source target = grind (arith, nat_tests, length-part, length-splice)

-- Storing a vector replaces a range.
stored : (xs new : List ℕ) (at : ℕ) → at + length new ≤ length xs → put_chunk at xs new ≡ splice xs at new
stored xs new at fits = grind (arith, common_steps, put_chunk_is)

-- Reading a vector and storing it moves its bytes.
pub moved_part : (xs : List ℕ) (from to n : ℕ) → from + n ≤ length xs → to + n ≤ length xs
    → put_chunk to xs (chunk from n xs) ≡ moved xs from to n
moved_part xs from to n source target = grind (arith, nat_tests, length-part, stored)

-- Two vectors, of the first and of the last bytes, move all that they cover, if both are read before either is stored.
pub moved_ends : (xs : List ℕ) (from to n k : ℕ) → from + n ≤ length xs → to + n ≤ length xs → k ≤ n → n ≤ k + k
    → put_chunk (to + (n - k)) (put_chunk to xs (chunk from k xs)) (chunk (from + (n - k)) k xs) ≡ moved xs from to n
moved_ends xs from to n k source target part covered =
    let last = n - k in
    let ys = moved xs from to k in
    let sized = length-moved xs from to k (omega arith) (omega arith) in
    let back = take k (drop (from + last) xs) in
    let back_sized = length-part xs (from + last) k (omega arith) in
    let both = length-splice ys back (to + last) (omega (arith, sized, back_sized)) in
    let whole = length-moved xs from to n source target in
    ap (λ (l : List ℕ). put_chunk (to + last) l back) (moved_part xs from to k (omega arith) (omega arith))
    ∙ stored ys back (to + last) (omega (arith, sized, back_sized))
    ∙ same_number_lists (splice ys (to + last) back) (moved xs from to n) (both ∙ sized ∙ sym whole) (λ i below.
    grind (arith, cases_lt i to, cases_lt i (to + last), cases_lt i (to + n), by_index))

-- Downwards, a move and then that of the part after it are one.
pub moved_on : (xs : List ℕ) (from to n k : ℕ) → from + (n + k) ≤ length xs → to ≤ from
    → moved (moved xs from to n) (from + n) (to + n) k ≡ moved xs from to (n + k)
moved_on xs from to n k source down =
    let ys = moved xs from to n in
    let sized = length-moved xs from to n (omega arith) (omega arith) in
    let last = length-moved ys (from + n) (to + n) k (omega arith) (omega arith) in
    let whole = length-moved xs from to (n + k) (omega arith) (omega arith) in
    same_number_lists (moved ys (from + n) (to + n) k) (moved xs from to (n + k)) (last ∙ sized ∙ sym whole) (λ i below.
    grind (arith, cases_lt i to, cases_lt i (to + n), by_index))

-- Upwards, a move and then that of the part before it are one.
pub moved_back : (xs : List ℕ) (from to n m l k : ℕ) → to + n ≤ length xs → from ≤ to → m ≤ n → l ≤ m → k ≡ m - l
    → moved (moved xs (from + m) (to + m) (n - m)) (from + l) (to + l) k ≡ moved xs (from + l) (to + l) (n - l)
moved_back xs from to n m l k target up some part is =
    let ys = moved xs (from + m) (to + m) (n - m) in
    let sized = length-moved xs (from + m) (to + m) (n - m) (omega arith) (omega arith) in
    let last = length-moved ys (from + l) (to + l) k (omega arith) (omega arith) in
    let whole = length-moved xs (from + l) (to + l) (n - l) (omega arith) (omega arith) in
    same_number_lists (moved ys (from + l) (to + l) k) (moved xs (from + l) (to + l) (n - l)) (last ∙ sized ∙ sym whole) (λ i below.
    grind (arith, cases_lt i (to + l), cases_lt i (to + m), by_index))

-- Moving the last part of a range and then its first one moves the range.
pub moved_first : (xs : List ℕ) (from to n m : ℕ) → to + n ≤ length xs → from ≤ to → m ≤ n
    → moved (moved xs (from + m) (to + m) (n - m)) from to m ≡ moved xs from to n
moved_first xs from to n m target up some = simp unary_clauses at (moved_back xs from to n m 0 m target up some (omega arith) (omega arith))

-- ---- A move in the last part of a list

-- So a move in the last part is a move in the list.
pub moved_in_last : (xs part new : List ℕ) (k from to n : ℕ) → part ≡ take (length xs - k) (drop k xs) → new ≡ moved part from to n
    → k + from + n ≤ length xs → k + to + n ≤ length xs
    → written_from xs k new ≡ written_from xs (k + to) (take n (drop (k + from) xs))
moved_in_last xs part new k from to n is moves source target =
    let sized : length part ≡ length xs - k = ap length is ∙ length-part xs k (length xs - k) (omega arith) in
    let still : length new ≡ length part = ap length moves ∙ length-moved part from to n (omega (arith, sized)) (omega (arith, sized)) in
    let whole = length-moved xs (k + from) (k + to) n (omega arith) (omega arith) in
    let last = length-splice xs new k (omega (arith, still, sized)) in
    written_spliced xs new k (omega (arith, still, sized))
    ∙ same_number_lists (splice xs k new) (moved xs (k + from) (k + to) n) (last ∙ sym whole) (λ i below.
    rw (moves, is) (grind (arith, cases_lt i k, cases_lt i (k + to), cases_lt i (k + to + n), by_index)))
    ∙ sym (written_spliced xs (take n (drop (k + from) xs)) (k + to) (omega (arith, length-part xs (k + from) n source)))
