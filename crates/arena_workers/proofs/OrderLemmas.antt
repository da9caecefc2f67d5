-- Outcomes that are put into their places are those of the pieces at these places.
use Rattle.std.proofs.Common.{◌≡◌, ℕ, zero, suc, ◌<◌, List, [], ◌∷◌, ◌++◌, length, get_or, set, All, subst, arith}
use Rattle.std.specs.List.{AllZip, enumerate_from}
use Rattle.std.proofs.lemmas.List.{get_or_default}
use Rattle.std.proofs.lemmas.List.FromFn.{length-enumerate_from, get_or-enumerate_from}
use Rattle.std.proofs.lemmas.List.Elements.{All-nil, All-push, All-head, All-tail, All-weaker}
use Rattle.std.proofs.lemmas.Slice.Zip.{AllZip-long}
use Rattle.arena_workers.specs.Order.{IsOf, IsShift}

-- what holds of all outcomes and comes to a relation with any piece
pub all_zip : {P S : Type 0} (served : P → S → Type 0) (plain : S → Type 0) → ((p : P) (s : S) → plain s → served p s)
    → (pieces : List P) (all : List S) → length all ≡ length pieces → All plain all → AllZip served pieces all
all_zip served plain comes [] [] long is = tt
all_zip served plain comes (p ∷ pieces) (s ∷ all) long is =
    (comes p s (All-head plain s all is), all_zip served plain comes pieces all (omega (arith, long)) (All-tail plain s all is))
all_zip served plain comes pieces all long is = absurd (grind arith)

module _ {P S : Type 0} (served : P → S → Type 0) where
  set_zip : (pieces : List P) (all : List S) (i : ℕ) (d : P) (s : S) → AllZip served pieces all → i < length pieces
      → served (get_or pieces i d) s → AllZip served pieces (set all i s)
  set_zip (p ∷ pieces) (t ∷ all) zero d s are inside is = (is, are.1)
  set_zip (p ∷ pieces) (t ∷ all) (suc i) d s are inside is = (are.0, set_zip pieces all i d s are.1 (omega (arith, inside)) is)
  set_zip pieces all i d s are inside is = absurd (grind arith)

  -- an outcome of a piece is put into its place
  pub places : (pieces : List P) (all : List S) (i : ℕ) (s : S) → AllZip served pieces all → IsOf served pieces (i, s)
      → AllZip served pieces (set all i s)
  places [] all i s are is = absurd (omega (arith, is.0))
  places (p ∷ pieces) all i s are is = set_zip (p ∷ pieces) all i p s are is.0 (is.1 p)

  -- the places of all outcomes of a worker are there
  pub inside_all : (pieces : List P) (all : List S) (shift : List (ℕ × S)) → AllZip served pieces all → IsShift served pieces shift
      → All (λ numbered. numbered.0 < length all) shift
  inside_all pieces all shift are is =
      All-weaker (IsOf served pieces) (λ numbered. numbered.0 < length all)
      (λ numbered of. omega (arith, of.0, AllZip-long served pieces all are)) shift is.each

  pub no_shift : (pieces : List P) → IsShift served pieces []
  no_shift pieces = record { each = All-nil (IsOf served pieces) }

-- one more piece was worked on, the one with this number
pub longer : {P S : Type 0} (served : ℕ × P → S → Type 0) (pieces : List P) (shift : List (ℕ × S)) (i : ℕ) (piece : P) (s : S)
    → IsShift served (enumerate_from 0 pieces) shift → i < length pieces → piece ≡ get_or pieces i piece → served (i, piece) s
    → IsShift served (enumerate_from 0 pieces) (shift ++ (i, s) ∷ [])
longer {P} served pieces shift i piece s is inside at more =
    let same : (p : ℕ × P) → (i, piece) ≡ get_or (enumerate_from 0 pieces) i p = λ p.
    grind (arith, at, get_or-enumerate_from 0 pieces i p inside, get_or_default pieces i piece p.1 inside) in record {
      each = All-push (IsOf served (enumerate_from 0 pieces)) shift (i, s) is.each
          (omega (arith, length-enumerate_from 0 pieces, inside), λ p. subst (λ (x : ℕ × P). served x s) (same p) more);
    }

-- the first of a list of which something holds, and the rest
pub first_and_rest : {X : Type 0} (P : X → Type 0) (all rest : List X) (x : X) → all ≡ x ∷ rest → All P all → P x × All P rest
first_and_rest P all rest x is holds = let split = rw is at holds in (All-head P x rest split, All-tail P x rest split)
