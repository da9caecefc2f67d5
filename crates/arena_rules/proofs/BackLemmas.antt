-- What remains of a state that goes back to a mark.
use Rattle.std.proofs.lemmas.List.{drop_all}
use Rattle.std.proofs.Common.{◌≡◌, ℕ, zero, suc, ◌-◌, ◌%◌, ◌<◌, ◌≤◌, max, arith, List, [], ◌∷◌, IsTrue, Bool, true, sum, map, length, drop}
use Rattle.std.proofs.lemmas.Bool.{or_right}
use Rattle.std.proofs.lemmas.Bool.Decides.{nat_tests}
use Rattle.std.proofs.lemmas.List.Sums.{sum_by-cons}
use Rattle.arena_rules.specs.State.{State, Chunk, AreChunks, FitsKind, IsValid, start_of, top_of, floor_of, data_end, used_length, used_bytes, is_used_by, is_range_used}
use Rattle.arena_rules.specs.Doubling.{IsDoubling}
use Rattle.arena_rules.specs.Back.{Point, mark_of, first_chunks, raised, back, accepts}

-- ---- The oldest chunks

-- what passes from a list to its tail passes to what is left after some items
after : (P : List Chunk → Type 0) → ((chunk : Chunk) (older : List Chunk) → P (chunk ∷ older) → P older) → (k : ℕ) (chunks : List Chunk)
    → P chunks → P (drop k chunks)
after P tail zero chunks all = all
after P tail (suc k) [] all = all
after P tail (suc k) (newest ∷ older) all = after P tail k older (tail newest older all)

pub valid_after : (m k : ℕ) (chunks : List Chunk) → AreChunks m chunks → AreChunks m (drop k chunks)
valid_after m = after (AreChunks m) (λ chunk older valid. valid.2)

pub floor_after : (m k : ℕ) (chunks : List Chunk) → AreChunks m chunks → floor_of (drop k chunks) ≤ floor_of chunks
floor_after m k chunks valid = (after (λ (l : List Chunk). AreChunks m l × (floor_of l ≤ floor_of chunks))
    (λ chunk older is. (is.0.2, omega (arith, is.0, is.1))) k chunks (valid, omega arith)).1

kind_after : (k : ℕ) (chunks : List Chunk) → FitsKind true chunks → FitsKind true (drop k chunks)
kind_after = after (FitsKind true) (λ chunk older fits. fits.1)

used_after : (k addr n : ℕ) (chunks : List Chunk) → IsTrue (is_range_used (drop k chunks) addr n) → IsTrue (is_range_used chunks addr n)
used_after k addr n chunks = after (λ (l : List Chunk). IsTrue (is_range_used l addr n) → IsTrue (is_range_used chunks addr n))
    (λ chunk older is used. is (or_right (is_used_by addr n chunk) (is_range_used older addr n) used)) k chunks (λ used. used)

total_after : (f : Chunk → ℕ) (k : ℕ) (chunks : List Chunk) → sum (map f (drop k chunks)) ≤ sum (map f chunks)
total_after f k chunks = after (λ (l : List Chunk). sum (map f l) ≤ sum (map f chunks))
    (λ chunk older is. omega (arith, sum_by-cons (λ (n : ℕ). n) (f chunk) (map f older), is)) k chunks (omega arith)

pub doubling_after : (z k : ℕ) (chunks : List Chunk) → IsDoubling z chunks → IsDoubling z (drop k chunks)
doubling_after z = after (IsDoubling z) (λ chunk older double. double.1)

-- ---- A cursor that is raised

valid_raised : (m c : ℕ) (chunks : List Chunk) → AreChunks m chunks → (c % m ≡ 0) → c ≤ top_of chunks → AreChunks m (raised c chunks)
valid_raised m c chunks valid aligned high = grind (arith, nat_tests)

kind_raised : (growing : Bool) (c : ℕ) (chunks : List Chunk) → FitsKind growing chunks → FitsKind growing (raised c chunks)
kind_raised growing c chunks fits = grind (arith, nat_tests)

pub floor_raised : (c : ℕ) (chunks : List Chunk) → floor_of (raised c chunks) ≡ floor_of chunks
floor_raised c chunks = grind arith

total_raised : (c : ℕ) (chunks : List Chunk) → sum (map used_length (raised c chunks)) ≤ sum (map used_length chunks)
total_raised c [] = omega arith
total_raised c (newest ∷ older) = omega (
  arith,
  sum_by-cons (λ (n : ℕ). n) (used_length newest) (map used_length older),
  sum_by-cons (λ (n : ℕ). n) (data_end newest - max newest.cursor c) (map used_length older),
)

-- ---- Going back

-- what is true of an accepted mark
pub record IsMark (mark : Point) (state : State) : Type 0 where
  pub aligned : (0 < mark.chunks) → mark.cursor % state.min_align ≡ 0
  pub high : (0 < mark.chunks) → mark.cursor ≤ top_of (first_chunks mark.chunks state.chunks)
  pub low : (0 < mark.chunks) → start_of (first_chunks mark.chunks state.chunks) ≤ mark.cursor
  pub within : mark.chunks ≤ length state.chunks
  pub growing : mark.chunks ≡ 0 → state.is_growing ≡ true

pub is_mark : (mark : Point) (state : State) → IsTrue (accepts mark state) → IsMark mark state
is_mark mark state holds = grind (arith, nat_tests)

-- with no chunk left there is no cursor
pub none_left : (chunks : List Chunk) (n : ℕ) → n ≡ 0 → first_chunks n chunks ≡ []
none_left chunks n none = grind (arith, nat_tests, drop_all)

-- the oldest chunks make a valid state, too, if an arena that doesn't grow keeps one
pub first_valid : (n : ℕ) (state : State) → IsValid state → (n ≡ 0 → state.is_growing ≡ true)
    → IsValid (record state { chunks = first_chunks n state.chunks })
first_valid n state valid growing = grind (arith, nat_tests, valid_after, floor_after, kind_after)

pub back_valid : (mark : Point) (state : State) → IsValid state → IsTrue (accepts mark state) → IsValid (back mark state)
back_valid mark state valid holds = grind (arith, nat_tests, valid_raised, none_left, floor_raised, kind_raised, is_mark, first_valid)

-- Nothing comes into use.
pub back_fewer : (mark : Point) (state : State) (addr n : ℕ) → IsTrue (is_range_used (back mark state).chunks addr n)
    → IsTrue (is_range_used state.chunks addr n)
back_fewer mark state addr n used = grind (arith, nat_tests, used_after (length state.chunks - mark.chunks) addr n state.chunks)

pub back_used : (mark : Point) (state : State) → used_bytes (back mark state) ≤ used_bytes state
back_used mark state = grind (arith, nat_tests, total_raised, total_after)

-- Chunks still double.
pub back_doubling : (z : ℕ) (mark : Point) (state : State) → IsDoubling z state.chunks → IsDoubling z (back mark state).chunks
back_doubling z mark state double = grind (arith, nat_tests, doubling_after)

-- ---- A state's own mark

pub all_kept : (chunks : List Chunk) → first_chunks (length chunks) chunks ≡ chunks
all_kept chunks = grind (arith, nat_tests)

-- Going back at once changes nothing.
pub back_at_once : (state : State) → back (mark_of state) state ≡ state
back_at_once state = grind (arith, nat_tests, all_kept)

pub own_accepted : (state : State) → IsValid state → IsTrue (accepts (mark_of state) state)
own_accepted state valid = grind (arith, nat_tests, all_kept)

pub ruleset back_laws = (back_valid, back_fewer, back_used, own_accepted, back_at_once)
