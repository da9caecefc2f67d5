-- The tried sizes, and the chunks that are asked for.
use Rattle.std.proofs.Common.{◌≡◌, ◌∙◌, ℕ, zero, suc, ◌+◌, ◌-◌, ◌*◌, ◌/◌, ◌^◌, ◌<◌, ◌≤◌, max, ap, sym, refl, arith, IsTrue, Some, None, Option, List, [], ◌∷◌, length, true, cond, leb}
use Rattle.std.proofs.lemmas.Bool.Decides.{nat_tests}
use Rattle.std.proofs.Math.Nat.{pow-suc}
use Rattle.std.specs.Prelude.{nat_le}
use Rattle.std.specs.List.{filter_map}
use Rattle.arena_rules.specs.Rounding.{up, is_layout}
use Rattle.arena_rules.specs.Search.{halves, possible, entries, asked_above, size_for, rounded_size, chunk_align}

pub halves_none : (t n least : ℕ) → n < least → halves t n least ≡ []
unfolding halves
halves_none zero n least small = refl
halves_none (suc t) n least small = grind (arith, nat_tests)

-- a larger limit gives the same sizes, if both limits are large enough
halves_turns : (t u n least : ℕ) → 0 < least → n < 2 ^ t → n < 2 ^ u → halves t n least ≡ halves u n least
unfolding halves
halves_turns zero u n least positive small below = sym (halves_none u n least (omega arith))
halves_turns (suc t) zero n least positive small below = grind (arith, nat_tests)
halves_turns (suc t) (suc u) n least positive small below =
    let rest = halves_turns t u (n / 2) least positive (omega (arith, pow-suc 2 t)) (omega (arith, pow-suc 2 u)) in
    ap (λ (l : List ℕ). cond (leb least n) (n ∷ l) []) rest

pub halves_first : (t n least : ℕ) → least ≤ n → halves (suc t) n least ≡ n ∷ halves t (n / 2) least
unfolding halves
halves_first t n least enough = let test : nat_le least n ≡ true = grind (arith, nat_tests) in rw test refl

-- a limit of 64 is large enough: a size is followed by its half
pub halves_more : (n least : ℕ) → n < 2 ^ 64 → 0 < least → least ≤ n → halves 64 n least ≡ n ∷ halves 64 (n / 2) least
halves_more n least small positive enough =
    halves_first 63 n least enough ∙ ap (λ (l : List ℕ). n ∷ l) (halves_turns 63 64 (n / 2) least positive (omega arith) (omega arith))

length-halves : (t n least : ℕ) → length (halves t n least) ≤ t
unfolding halves
length-halves zero n least = omega arith
length-halves (suc t) n least = grind (arith, nat_tests, length-halves t (n / 2) least)

length-filter_map_le : {X Y : Type 0} (h : X → Option Y) → (xs : List X) → length (filter_map h xs) ≤ length xs
length-filter_map_le h [] = omega arith
length-filter_map_le h (x ∷ xs) = grind (arith, length-filter_map_le h xs)

pub length-entries : (base size align first least : ℕ) → length (entries base size align first least) ≤ 64
unfolding entries
length-entries base size align first least =
    omega (arith, length-filter_map_le (possible base size align) (halves 64 first least), length-halves 64 first least)

pub entries_pass : (base size align n least : ℕ) → n < 2 ^ 64 → 0 < least → least ≤ n → possible base size align n ≡ None
    → entries base size align n least ≡ entries base size align (n / 2) least
unfolding entries
entries_pass base size align n least small positive enough none = rw (halves_more n least small positive enough, none) refl

pub entries_next : (base size align n least : ℕ) (e : ℕ × ℕ) → n < 2 ^ 64 → 0 < least → least ≤ n → possible base size align n ≡ Some e
    → entries base size align n least ≡ e ∷ entries base size align (n / 2) least
unfolding entries
entries_next base size align n least e small positive enough some = rw (halves_more n least small positive enough, some) refl

pub entries_end : (base size align n least : ℕ) → n < least → entries base size align n least ≡ []
unfolding entries
entries_end base size align n least small = rw (halves_none 64 n least small) refl

pub possible_some : (base size align tried bytes : ℕ) → Some bytes ≡ size_for tried size align → base + bytes + 48 ≤ 2 ^ 64 - 1
    → Some (base, bytes) ≡ possible base size align tried
unfolding possible
possible_some base size align tried bytes is fits = rw (← is) (grind (arith, nat_tests))

pub possible_over : (base size align tried bytes : ℕ) → Some bytes ≡ size_for tried size align → 2 ^ 64 - 1 < base + bytes + 48
    → None ≡ possible base size align tried
unfolding possible
possible_over base size align tried bytes is over = rw (← is) (grind (arith, nat_tests))

pub possible_none : (base size align tried : ℕ) → None ≡ size_for tried size align → None ≡ possible base size align tried
unfolding possible
possible_none base size align tried is = rw (← is) refl

-- a data size is a rounded one that leaves room for a footer
pub size_is : (tried size align bytes : ℕ) → size_for tried size align ≡ Some bytes
    → (rounded_size (max tried (up size (chunk_align align))) ≡ Some bytes) × IsTrue (is_layout (bytes + 48) (chunk_align align))
unfolding size_for
size_is tried size align bytes is = grind (arith, nat_tests)

pub size_valid : (tried size align bytes : ℕ) → Some bytes ≡ size_for tried size align → IsTrue (is_layout (bytes + 48) (chunk_align align))
size_valid tried size align bytes is = (size_is tried size align bytes (sym is)).1

pub asked_above_is : (floor newest size align base first least : ℕ) → base ≡ up floor (chunk_align align) → least ≡ max size 16320
    → first ≡ max least (2 * newest)
    → asked_above floor newest size align ≡ entries base size align first least
unfolding asked_above
asked_above_is floor newest size align base first least is_base is_least is_first = rw (is_base, is_first, is_least) refl

-- no chunk begins above the last address
pub asked_above-past_end : (floor newest size align : ℕ) → (up floor (chunk_align align) < 2 ^ 64 → ⊥)
    → asked_above floor newest size align ≡ []
unfolding asked_above entries possible
asked_above-past_end floor newest size align high = all (halves 64 (max (max size 16320) (2 * newest)) (max size 16320))
  where
    all : (xs : List ℕ) → filter_map (possible (up floor (chunk_align align)) size align) xs ≡ []
    all [] = refl
    all (x ∷ xs) = grind (arith, nat_tests, all xs)
