-- The chunks that a growing arena asks for, and where a block is in one.
use Rattle.std.proofs.Common.{◌≡◌, ◌∙◌, ℕ, zero, suc, ◌+◌, ◌-◌, ◌*◌, ◌/◌, ◌%◌, ◌^◌, ◌<◌, ◌≤◌, max, ap, sym, refl, subst, arith, IsTrue, Some, None, Option, List, [], ◌∷◌, inl, inr}
use Rattle.std.specs.Prelude.{slice_get, IsSome}
use Rattle.std.specs.Option.{option_map}
use Rattle.std.specs.List.{filter_map}
use Rattle.std.proofs.lemmas.Bool.{cases_lt}
use Rattle.std.proofs.lemmas.Bool.Decides.{nat_tests}
use native.Mathlib.Nat.{zero-mod}
use Rattle.arena_rules.specs.Rounding.{up, down, is_layout, is_power}
use Rattle.arena_rules.specs.State.{is_min_align, Chunk}
use Rattle.arena_rules.specs.Search.{asked, halves, possible, entries, asked_above, next_base, size_for, chunk_align, place_below}
use Rattle.arena_rules.proofs.RoundingLemmas.{up_ge, up_least, down_le, down_mod, down_greatest, sum_multiple, difference_multiple, power_positive, power_multiple, max_power, pow_power, layout_power, layout_small, min_align_power, min_align_le}
use Rattle.arena_rules.proofs.SearchLemmas.{possible_some, possible_none, size_valid, entries_pass, entries_next, entries_end, asked_above_is}
use Rattle.arena_rules.proofs.EntryLemmas.{possible_entry}
use Rattle.arena_rules.proofs.PlaceLemmas.{place_found, past_none}
use Rattle.arena_cursor.specs.Growing.{sizes_of, size_after, IsRequest}
use Rattle.arena_cursor.specs.Steps.{arena_over}
use Rattle.arena_cursor.specs.declared.cursor.Cursor.{Cursor}
use Rattle.arena_cursor.specs.declared.growing.Chunk.{Chunk as Request}

-- ---- The request for a tried size

-- a data size leaves room for the caller's bytes
pub data_small : (tried size align bytes : ℕ) → Some bytes ≡ size_for tried size align → bytes + 48 ≤ 2 ^ 63 - 1
data_small tried size align bytes is = layout_small (bytes + 48) (chunk_align align) (size_valid tried size align bytes is)

-- below the middle of the addresses each data size is possible
pub possible_low : (base tried size align bytes : ℕ) → base ≤ 2 ^ 63 → Some bytes ≡ size_for tried size align
    → Some (base, bytes) ≡ possible base size align tried
possible_low base tried size align bytes low is =
    possible_some base size align tried bytes is (omega (arith, low, data_small tried size align bytes is))

pub entry_some : (tried size align bytes : ℕ) → Some bytes ≡ size_for tried size align → Some (0, bytes) ≡ possible 0 size align tried
entry_some tried size align bytes is = possible_low 0 tried size align bytes (omega arith) is

pub entry_none : (tried size align : ℕ) → None ≡ size_for tried size align → None ≡ possible 0 size align tried
entry_none tried size align is = possible_none 0 size align tried is

-- a block has a place above an aligned base
holds : (size align bytes base m : ℕ) → IsTrue (is_power align) → IsTrue (is_min_align m) → up size (chunk_align align) ≤ bytes → 0 < base
    → base % chunk_align align ≡ 0 → IsSome (place_below base (base + bytes) size align m)
holds size align bytes base m power least room positive aligned =
    let unit = max_power align 16 power (pow_power 4 (omega arith)) in
    let both = max_power align m power (min_align_power m least) in
    let small = min_align_le m least in
    let whole = power_multiple base (max align m) (chunk_align align) both unit (omega (arith, small)) aligned in
    let fits = up_ge size (chunk_align align) (power_positive (chunk_align align) unit) in
    rw (place_found base (base + bytes) size align m power least whole (omega (arith, room, fits))) refl

pub request_is : (tried size align bytes : ℕ) (chunk : Request) → 0 < tried → IsTrue (is_layout size align)
    → Some bytes ≡ size_for tried size align → chunk.size ≡ bytes → chunk.bytes ≡ bytes + 48 → chunk.align ≡ max align 16
    → IsRequest size align chunk
request_is tried size align bytes chunk some layout is same more at =
    let power = layout_power size align layout in
    let entry = possible_entry 0 size align tried (0, bytes) some power (sym (entry_some tried size align bytes is)) in
    record {
      more = more ∙ ap (λ (n : ℕ). n + 48) (sym same);
      unit = at;
      layout = rw (more, at) (size_valid tried size align bytes is);
      whole = subst (λ (n : ℕ). n % 16 ≡ 0) (sym same) entry.units;
      holds = λ base m positive aligned least.
          rw same (holds size align bytes base m power least entry.holds positive (subst (λ (n : ℕ). base % n ≡ 0) at aligned));
    }

pub ruleset request_laws = (data_small, entry_some, entry_none, request_is)

-- ---- One request after another

module _ (size align tried least : ℕ) (small : tried < 2 ^ 64) (positive : 0 < least) (enough : least ≤ tried) where
  pub entry_now : (bytes : ℕ) → Some (0, bytes) ≡ possible 0 size align tried
      → Some (0, bytes) ≡ slice_get (entries 0 size align tried least) 0
  entry_now bytes is = rw (entries_next 0 size align tried least (0, bytes) small positive enough (sym is)) refl

  pub entry_later : (bytes k : ℕ) → Some (0, bytes) ≡ possible 0 size align tried → 0 < k
      → slice_get (entries 0 size align tried least) k ≡ slice_get (entries 0 size align (tried / 2) least) (k - 1)
  entry_later bytes zero is some = absurd (omega (arith, some))
  entry_later bytes (suc k) is some =
      rw (entries_next 0 size align tried least (0, bytes) small positive enough (sym is))
      (ap (λ (n : ℕ). slice_get (entries 0 size align (tried / 2) least) n) {y = suc k - 1} (omega arith))

  pub entry_pass : (k : ℕ) → None ≡ possible 0 size align tried
      → slice_get (entries 0 size align tried least) k ≡ slice_get (entries 0 size align (tried / 2) least) k
  entry_pass k is = rw (entries_pass 0 size align tried least small positive enough (sym is)) refl

pub entry_end : (size align tried least k : ℕ) → tried < least → None ≡ slice_get (entries 0 size align tried least) k
entry_end size align tried least k over = rw (entries_end 0 size align tried least over) refl

pub ruleset entry_laws = (entry_now, entry_later, entry_pass, entry_end)

zero_up : (d : ℕ) → 0 < d → 0 ≡ up 0 d
zero_up d positive = omega (arith, up_least 0 d 0 positive (zero-mod d) (omega arith))

pub size_after_is : (newest size align first least k : ℕ) → IsTrue (is_layout size align) → least ≡ max size 16320
    → first ≡ max least (2 * newest)
    → size_after newest size align k ≡ option_map (λ (e : ℕ × ℕ). e.1) (slice_get (entries 0 size align first least) k)
size_after_is newest size align first least k layout is_least is_first =
    let unit = max_power align 16 (layout_power size align layout) (pow_power 4 (omega arith)) in
    rw (asked_above_is 0 newest size align 0 first least (zero_up (chunk_align align) (power_positive (chunk_align align) unit))
    is_least is_first) refl

-- ---- Other addresses

sizes_all : (base size align : ℕ) (xs : List ℕ) → base ≤ 2 ^ 63
    → sizes_of (filter_map (possible base size align) xs) ≡ sizes_of (filter_map (possible 0 size align) xs)
sizes_all base size align [] low = refl
sizes_all base size align (x ∷ xs) low = go (sizes_all base size align xs low) (size_for x size align) refl
  where
    go : sizes_of (filter_map (possible base size align) xs) ≡ sizes_of (filter_map (possible 0 size align) xs) → (o : Option ℕ)
        → size_for x size align ≡ o
        → sizes_of (filter_map (possible base size align) (x ∷ xs)) ≡ sizes_of (filter_map (possible 0 size align) (x ∷ xs))
    go rest None is =
        rw (sym (possible_none base size align x (sym is)), sym (possible_none 0 size align x (sym is))) rest
    go rest (Some n) is =
        rw (sym (possible_low base x size align n low (sym is)), sym (possible_low 0 x size align n (omega arith) (sym is)))
        (ap (λ (l : List ℕ). n ∷ l) rest)

pub sizes_anywhere : (floor newest size align : ℕ) → IsTrue (is_power align) → next_base floor align ≤ 2 ^ 63
    → sizes_of (asked_above floor newest size align) ≡ sizes_of (asked_above 0 newest size align)
unfolding asked_above entries
sizes_anywhere floor newest size align power low =
    let unit = max_power align 16 power (pow_power 4 (omega arith)) in
    let none : 0 ≡ next_base 0 align = zero_up (chunk_align align) (power_positive (chunk_align align) unit) in
    let xs : List ℕ = halves 64 (max (max size 16320) (2 * newest)) (max size 16320) in
    subst (λ (b : ℕ). sizes_of (filter_map (possible (next_base floor align) size align) xs) ≡ sizes_of (filter_map (possible b size align) xs))
    none (sizes_all (next_base floor align) size align xs low)

down_moved : (n t d : ℕ) → 0 < d → t % d ≡ 0 → down (n + t) d ≡ down n d + t
down_moved n t d positive multiple =
    let up_to = down_greatest (n + t) d (down n d + t) positive (sum_multiple (down n d) t d (down_mod n d) multiple)
    (omega (arith, down_le n d)) in
    let back = down_greatest n d (down (n + t) d - t) positive (difference_multiple (down (n + t) d) t d (down_mod (n + t) d) multiple)
    (omega (arith, down_le (n + t) d)) in
    omega (arith, up_to, back)

pub places_anywhere : (start cursor size align m t : ℕ) → 0 < start → IsTrue (is_power align) → IsTrue (is_min_align m)
    → t % max align m ≡ 0
    → place_below (start + t) (cursor + t) size align m ≡ option_map (λ (p : ℕ). p + t) (place_below start cursor size align m)
places_anywhere start cursor size align m t positive power least whole = elim (cases_lt cursor size) [
  | inl past ↦
      let low = down_le (cursor + t - size) (max align m) in
      let none : place_below (start + t) (cursor + t) size align m ≡ None = grind (arith, nat_tests, low) in
      rw (none, sym (past_none start cursor size align m positive past)) refl
  | inr within ↦
      let some = power_positive (max align m) (max_power align m power (min_align_power m least)) in
      let moved : down (cursor + t - size) (max align m) ≡ down (cursor - size) (max align m) + t =
      ap (λ (n : ℕ). down n (max align m)) {y = cursor - size + t} (omega (arith, within)) ∙ down_moved (cursor - size) t (max align m) some whole in
      grind (arith, nat_tests, moved)
]

pub ruleset address_laws = (sizes_anywhere, places_anywhere)

-- ---- Older chunks

pub asked_over : (at : Cursor) (n : ℕ) (older : List Chunk) (size align : ℕ) → IsTrue (is_power align)
    → next_base (at.start + (at.end - at.start) + 48) align ≤ 2 ^ 63
    → sizes_of (asked (arena_over at n older) size align) ≡ sizes_of (asked_above 0 (at.end - at.start) size align)
unfolding asked
asked_over at n older size align power low = sizes_anywhere (at.start + (at.end - at.start) + 48) (at.end - at.start) size align power low

pub ruleset older_laws = (asked_over)
