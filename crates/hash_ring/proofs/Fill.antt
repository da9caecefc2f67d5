-- A ring is filled from other slots, in the order of a walk over their marks.
use Rattle.std.proofs.Common.{◌≡◌, ℕ, ◌+◌, ◌<◌, inl, inr, List, length, sym, ap, subst, ◌∙◌, arith, Some, None, Option, drop}
use Rattle.std.proofs.Common.{replicate}
use Rattle.std.specs.Prelude.{slice_get, slice_index}
use Rattle.std.proofs.lemmas.Bool.{cases_lt}
use Rattle.std.proofs.lemmas.Option.{slice_get_within}
use Rattle.std.proofs.lemmas.List.{length-replicate}
use Rattle.hash_ring.specs.Slots.{items, Has, IsOnce, IsOrdered, Settled, Moved}
use Rattle.hash_ring.specs.Walks.{front_of, AreFree, GoesOn}
use Rattle.hash_ring.specs.declared.scan.Scan.{Scan}
use Rattle.hash_ring.proofs.Count.{items-none, none-there}
use Rattle.hash_ring.proofs.Places.{one-item}
use Rattle.hash_ring.proofs.Scanning.{nothing, left-clear, left-end, left-goes}

-- all slots free are in order
pub ordered-none : {X : Type 0} (home : X → ℕ) (n : ℕ) → IsOrdered home n (replicate n None)
ordered-none home n = record { long = length-replicate n None; order = λ x d l s. absurd (none-there n _ x s) }

-- the new slots hold what the first i of the old ones do
pub record Filled {X : Type 0} (old : List (Option X)) (i : ℕ) (new : List (Option X)) : Type 0 where
  pub count : length (items new) + length (items (drop i old)) ≡ length (items old)
  pub only : (x : X) → Has new x → (j : ℕ) × (j < i) × (slice_get old j ≡ Some (Some x))
  pub keeps : (j : ℕ) (x : X) → j < i → slice_get old j ≡ Some (Some x) → Has new x
  pub once : (content : X → List ℕ) → IsOnce content old → IsOnce content new

-- there is room for all
pub filled-room : {X : Type 0} (old : List (Option X)) (n i : ℕ) (new : List (Option X)) → length (items old) < n → Filled old i new
    → length (items new) < n
filled-room old n i new h f = omega (arith, f.count)

module _ {X : Type 0} (n : ℕ) (marks : List ℕ) (old : List (Option X)) (long : length old ≡ n)
    (free : (i : ℕ) → i < n → slice_index marks i ≡ 0 → slice_get old i ≡ Some None) where
  -- before the walk no item is there
  pub filled-start : (s : Scan) (m : ℕ) → AreFree marks 0 (front_of s) → Filled old (front_of s) (replicate m None)
  filled-start s m none = record {
    count = omega (arith, ap length (items-none {X = X} m), ap length (left-clear n marks old long free 0 (front_of s) (omega arith) none));
    only = λ x h. absurd (none-there m h.0 x h.1);
    keeps = λ j x l there. absurd (nothing n marks old long free 0 (front_of s) none j x (omega arith) l there);
    once = λ content o i j x y there other e. absurd (none-there m i x there);
  }

  -- the item that the walk comes to is inserted
  pub filled-goes : (s t : Scan) (at : ℕ) (x : X) (new new' : List (Option X)) → GoesOn n marks s at t → slice_get old at ≡ Some (Some x)
      → Settled new new' x → Filled old (front_of s) new
      → Filled old (front_of t) new'
  filled-goes s t at x new new' g there settled f = record {
    count = omega (arith, settled.count, f.count, ap length (left-goes n marks old long free s t at x g there));
    only = λ y h. elim (settled.only y h) [
      | inl k ↦ let r = f.only y k in (r.0, omega (arith, r.1, g.before, g.on), r.2)
      | inr k ↦ (at, g.on, there ∙ ap (λ w. Some (Some w)) (sym k))
    ];
    keeps = λ j y l is. elim (cases_lt j (front_of s)) [
      | inl k ↦ settled.keeps y (f.keeps j y k is)
      | inr k ↦ elim (cases_lt j at) [
        | inl before ↦ absurd (nothing n marks old long free (front_of s) at g.over j y (omega arith) before is)
        | inr h ↦ elim (cases_lt at j) [
          | inl behind ↦ absurd (nothing n marks old long free (at + 1) (front_of t) g.behind j y (omega arith) l is)
          | inr h' ↦
              let same : at ≡ j = omega arith in
              subst (λ w. Has new' w) (one-item old at x y there (ap (slice_get old) same ∙ is)) settled.put
        ]
      ]
    ];
    once = λ content o. settled.once content (f.once content o) (λ j y is e.
        let r = f.only y (j, is) in
        absurd (omega (arith, r.1, g.before, o r.0 at y x r.2 there e)));
  }

  -- at its end all items are there
  pub filled-whole : (s : Scan) (new : List (Option X)) → AreFree marks (front_of s) n → Filled old (front_of s) new → Moved old new
  filled-whole s new none f = record {
    count = omega (arith, f.count, ap length (left-end n marks old long free (front_of s) none));
    only = λ x h. let r = f.only x h in (r.0, r.2);
    keeps = λ x h. elim (cases_lt h.0 (front_of s)) [
      | inl l ↦ f.keeps h.0 x l h.1
      | inr l ↦ absurd (nothing n marks old long free (front_of s) n none h.0 x (omega arith) (omega (arith, long, slice_get_within old h.0 (Some x) h.1)) h.1)
    ];
    once = f.once;
  }
