-- Walks in which a test takes some values for the last one kept.
use Rattle.std.proofs.Common.{List, [], ◌∷◌, refl, ap, Bool, true, false}
use Rattle.std.specs.List.{FoldsTo}
use Rattle.std.specs.List.Retain.{DedupsFrom, IsDeduped}
use Rattle.arena_vec.specs.Calling.{DedupTurn, CallableInDedup}

-- The walk's state is that of the test and the last value kept.
abbrev pub LeavesOne : {S X : Type 0} → (S → X → X → Bool → S → X → X → Type 0) → S × X → List X → List X → Type 0
LeavesOne R at xs ys = DedupsFrom R at.0 at.1 xs ys

module _ {S X : Type 0} (R : S → X → X → Bool → S → X → X → Type 0) {s t : S} {x y last kept : X} where
  -- The next value is removed, or it stays after the last.
  pub merged : R s x last true t y kept → (ys zs : List X) → LeavesOne R (t, kept) ys zs → LeavesOne R (s, last) (x ∷ ys) zs
  merged told ys zs rest = (true, t, y, kept, told, rest)

  pub parted : R s x last false t y kept → (ys zs : List X) → LeavesOne R (t, y) ys zs → LeavesOne R (s, last) (x ∷ ys) (kept ∷ zs)
  parted told ys zs rest = (false, t, y, kept, told, (zs, rest, refl))

-- If each step of one test is one of another, both leave the same.
module _ {S U X : Type 0} (R : S → X → X → Bool → S → X → X → Type 0) (Q : U → X → X → Bool → U → X → X → Type 0) (as_other : S → U)
    (same : (s t : S) (x k y kept : X) (b : Bool) → R s x k b t y kept → Q (as_other s) x k b (as_other t) y kept) where
  from_same : (s : S) (k : X) (xs ys : List X) → DedupsFrom R s k xs ys → DedupsFrom Q (as_other s) k xs ys
  from_same s k [] ys h = h
  from_same s k (x ∷ xs) ys (true, t, y, kept, told, more) =
      (true, as_other t, y, kept, same s t x k y kept true told, from_same t kept xs ys more)
  from_same s k (x ∷ xs) ys (false, t, y, kept, told, (zs, more, is)) =
      (false, as_other t, y, kept, same s t x k y kept false told, (zs, from_same t y xs zs more, is))

  pub deduped_same : (s : S) (xs ys : List X) → IsDeduped R s xs ys → IsDeduped Q (as_other s) xs ys
  deduped_same s [] ys h = record { told = h.told }
  deduped_same s (x ∷ xs) ys h = record { told = from_same s x xs ys h.told }

  turns_same : (s t : S) (k last : X) (xs : List X) → FoldsTo {P = S × X} (DedupTurn R) (s, k) xs (t, last)
      → FoldsTo {P = U × X} (DedupTurn Q) (as_other s, k) xs (as_other t, last)
  turns_same s t k last [] same = ap (λ p. (as_other p.0, p.1)) same
  turns_same s t k last (x ∷ xs) ((u, z), (b, y, kept, told, is), more) =
      ((as_other u, z), (b, y, kept, same s u x k y kept b told, is), turns_same u t z last xs more)

  -- If one can be called whenever the other can, it can be called at each value if the other can.
  pub callable_same : (Can : S → X → X → Type 0) (CanOther : U → X → X → Type 0)
      → ((s : S) (x k : X) → CanOther (as_other s) x k → Can s x k)
      → (s : S) (xs : List X) → CallableInDedup Q CanOther xs (as_other s) → CallableInDedup R Can xs s
  callable_same Can CanOther can s xs h = λ x rest first. record {
    at = λ zs t q y u a b c. can q.0 y q.1 ((h x rest first).at zs t (as_other q.0, q.1) y u a (turns_same s q.0 x q.1 zs b) c);
  }
