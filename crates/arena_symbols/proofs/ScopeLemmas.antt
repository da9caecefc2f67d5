-- Scopes as one list of pairs.
use Rattle.std.proofs.Common.{◌≡◌, ℕ, zero, suc, ◌+◌, ◌^◌, ◌<◌, ◌≤◌, List, [], ◌∷◌, ◌++◌, length, get_or, take, drop, reverse, refl, sym, ap, ◌∙◌, arith, inl, inr, Some, None, Option, eqb-true, eq-eqb}
use Rattle.std.specs.Prelude.{bytes_eq, ◌==◌, if◌then◌else◌, is_some, slice_get, option_map}
use Rattle.std.proofs.lemmas.Bool.Decides.{nat_tests, same_from_decides}
use Rattle.std.proofs.lemmas.Slice.Eq.{bytes_eq-Decides}
use Rattle.std.specs.Int.{w32, to_le_bytes}
use Rattle.std.proofs.lemmas.List.{reverse-append, map-append, length-map, length-take, length-drop, length-reverse, drop-append-le, take-append-le, take-append-drop, take_all, drop_all, take_more, nil_from_length}
use Rattle.std.proofs.lemmas.Bool.{cases_lt}
use Rattle.std.proofs.lemmas.Option.{get_or_from_slice_get, slice_get-get_or}
use Rattle.std.proofs.lemmas.List.Sums.{sum_by-cons}
use Rattle.arena_items.proofs.Layers.{length-elements}
use Rattle.arena_symbols.specs.Scoping.{seen, value_in, lookup, innermost, with_pair, pair_count, scopes_of, AreStarts, start_in, stands_from}
use Rattle.arena_symbols.specs.Tables.{Entry, pairs_of, newest, first_count}

-- ---- What is seen

-- later pairs are seen first
value_append : (older newer : List (ℕ × ℕ)) (id : ℕ) → value_in (older ++ newer) id ≡ seen (value_in newer id) (value_in older id)
value_append [] newer id = grind arith
value_append (p ∷ ps) newer id = rw (value_append ps newer id) (grind arith)

pub value_push : (pairs : List (ℕ × ℕ)) (id value q : ℕ)
    → value_in (pairs ++ (id, value) ∷ []) q ≡ (if id == q then Some value else value_in pairs q)
value_push pairs id value q = rw (value_append pairs ((id, value) ∷ []) q) (grind arith)

-- A pair at the end of the innermost map is seen first.
pub lookup_put : (scopes : List (List (ℕ × ℕ))) (id value q : ℕ) → 0 < length scopes
    → lookup (with_pair scopes id value) q ≡ (if id == q then Some value else lookup scopes q)
lookup_put [] id value q some = absurd (omega (arith, some))
lookup_put (scope ∷ outer) id value q some = rw (value_push scope id value q) (grind arith)

-- The maps together have the values of the whole list.
pub lookup_whole : (pairs : List (ℕ × ℕ)) (starts : List ℕ) (id : ℕ) → lookup (scopes_of pairs starts) id ≡ value_in pairs id
lookup_whole pairs [] id = grind arith
lookup_whole pairs (k ∷ ks) id =
    grind (arith, lookup_whole (take k pairs) ks id, value_append (take k pairs) (drop k pairs) id, take-append-drop k pairs)

-- ---- Entries, the newest first, as pairs that came one after another

-- the pairs of entries, in the order in which they came
abbrev arrived : List Entry → List (ℕ × ℕ)
arrived es = pairs_of (reverse es)

pub reverse_push : {X : Type 0} (xs : List X) (x : X) → reverse (xs ++ x ∷ []) ≡ x ∷ reverse xs
reverse_push xs x = reverse-append xs (x ∷ [])

pub pairs_push : (entries : List Entry) (e : Entry) → pairs_of (entries ++ e ∷ []) ≡ pairs_of entries ++ (e.0, e.1.0) ∷ []
pairs_push entries e = map-append (λ (e : Entry). (e.0, e.1.0)) entries (e ∷ [])

arrived_cons : (older : List Entry) (e : Entry) → arrived (e ∷ older) ≡ arrived older ++ (e.0, e.1.0) ∷ []
arrived_cons older e = ap pairs_of (reverse-append (e ∷ []) older) ∙ pairs_push (reverse older) e

length_arrived : (es : List Entry) → length (arrived es) ≡ length es
length_arrived es = length-map (reverse es) (λ (e : Entry). (e.0, e.1.0)) ∙ length-reverse es

pub newest_within : (es : List Entry) (id at : ℕ) → newest es id ≡ Some at → at < length es
newest_within [] id at is = absurd (cc)
newest_within (e ∷ older) id at is = grind (arith, is, newest_within older id at)

-- what the entry at a place says
abbrev pub told : List Entry → Option ℕ → Option ℕ
told entries None = None
told entries (Some at) = option_map (λ (e : Entry). e.1.0) (slice_get entries at)

get_push : {X : Type 0} (xs : List X) (x : X) (i : ℕ)
    → slice_get (xs ++ x ∷ []) i ≡ (if i == length xs then Some x else slice_get xs i)
get_push [] x zero = refl
get_push [] x (suc i) = grind (arith, nat_tests)
get_push (y ∷ ys) x zero = grind (arith, nat_tests)
get_push (y ∷ ys) x (suc i) = grind (arith, nat_tests, get_push ys x i)

-- An id has the value that its newest entry says.
pub value_told : (es : List Entry) (id : ℕ) → value_in (arrived es) id ≡ told (reverse es) (newest es id)
value_told [] id = refl
value_told (e ∷ older) id =
    rw (arrived_cons older e, value_push (arrived older) e.0 e.1.0 id, reverse-append (e ∷ []) older)
    (grind (arith, nat_tests, value_told older id, get_push (reverse older) e, newest_within older id, length-reverse older))

-- The pairs from a place on have an id if its newest entry is among them.
pub stands_there : (es : List Entry) (k id : ℕ) → is_some (value_in (drop k (arrived es)) id) ≡ stands_from (newest es id) k
stands_there [] zero id = refl
stands_there [] (suc k) id = refl
stands_there (e ∷ older) k id = elim (cases_lt k (length (e ∷ older))) [
  | inl less ↦
      let low : k ≤ length (arrived older) = omega (arith, less, length_arrived older) in
      rw (arrived_cons older e, drop-append-le k (arrived older) ((e.0, e.1.0) ∷ []) low, value_push (drop k (arrived older)) e.0 e.1.0 id)
      (grind (arith, nat_tests, less, stands_there older k id))
  | inr past ↦ rw (drop_all k (arrived (e ∷ older)) (omega (arith, past, length_arrived (e ∷ older))))
      (grind (arith, nat_tests, past, newest_within (e ∷ older) id))
]

-- The last of a list comes first in the reversed list.
pub reverse_last : {X : Type 0} (xs : List X) (n : ℕ) (x : X) → length xs ≡ n + 1 → slice_get xs n ≡ Some x
    → reverse xs ≡ x ∷ reverse (take n xs)
reverse_last {X} xs n x long there =
    ap reverse (sym (take_all (n + 1) xs (omega (arith, long))) ∙ take_more xs n x (omega (arith, long)))
    ∙ reverse_push (take n xs) (get_or xs n x) ∙ ap (λ (y : X). y ∷ reverse (take n xs)) (get_or_from_slice_get xs n x x there)

-- ---- The innermost map

pub innermost_is : (pairs : List (ℕ × ℕ)) (starts : List ℕ) → innermost (scopes_of pairs starts) ≡ drop (start_in starts) pairs
innermost_is pairs starts = grind (arith, nat_tests)

pub start_within : (n : ℕ) (starts : List ℕ) → AreStarts n starts → start_in starts ≤ n
start_within n starts begins = grind (arith, nat_tests)

-- The innermost map begins at the last of the places, and the next one before the others.
pub reverse_front : (xs : List ℕ) (n : ℕ) → length xs ≡ n + 1 → reverse xs ≡ start_in (reverse xs) ∷ reverse (take n xs)
reverse_front xs n long = rw (reverse_last xs n (get_or xs n 0) long (slice_get-get_or xs n 0 (omega (arith, long)))) refl

pub start_none : (xs : List ℕ) → length xs ≡ 0 → start_in (reverse xs) ≡ 0
start_none xs none = ap (λ (l : List ℕ). start_in (reverse l)) (nil_from_length xs none)

-- for automatic proof
pub ruleset start_laws = (reverse_last, start_none, length-elements)

pub length_scopes : (pairs : List (ℕ × ℕ)) (starts : List ℕ) → length (scopes_of pairs starts) ≡ length starts + 1
length_scopes pairs [] = refl
length_scopes pairs (k ∷ ks) = omega (arith, length_scopes (take k pairs) ks)

-- ---- Maps begun, and a pair more

pub scopes_enter : (pairs : List (ℕ × ℕ)) (starts : List ℕ) (n : ℕ) → n ≡ length pairs
    → scopes_of pairs (n ∷ starts) ≡ [] ∷ scopes_of pairs starts
scopes_enter pairs starts n is = (λ i. drop_all n pairs (omega (arith, is)) i ∷ scopes_of (take_all n pairs (omega (arith, is)) i) starts)

pub scopes_push : (pairs : List (ℕ × ℕ)) (starts : List ℕ) (id value : ℕ) → start_in starts ≤ length pairs
    → scopes_of (pairs ++ (id, value) ∷ []) starts ≡ with_pair (scopes_of pairs starts) id value
scopes_push pairs starts id value low = grind (arith, nat_tests, drop-append-le, take-append-le)

pub count_pairs : (pairs : List (ℕ × ℕ)) (starts : List ℕ) → pair_count (scopes_of pairs starts) ≡ length pairs
count_pairs pairs [] = omega arith
count_pairs pairs (k ∷ ks) = simp (sum_by-cons, count_pairs (take k pairs) ks, length-take, length-drop) (omega arith)

pub less_starts : (n m : ℕ) (starts : List ℕ) → start_in starts ≤ m → AreStarts n starts → AreStarts m starts
less_starts n m starts le begins = grind (arith, nat_tests)

pub first_most : (es : List Entry) → first_count es ≤ length es
first_most [] = omega arith
first_most (e ∷ older) = grind (arith, first_most older)

-- Two ids have the same byte form exactly if they are equal.
pub ids_equal : (q id : ℕ) → q < 2 ^ 32 → id < 2 ^ 32 → bytes_eq (to_le_bytes w32 q) (to_le_bytes w32 id) ≡ (id == q)
ids_equal q id fits also = grind (arith, nat_tests, same_from_decides, bytes_eq-Decides, eqb-true, eq-eqb)
