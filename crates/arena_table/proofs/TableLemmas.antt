-- Tables, their marks, and slots that are set and freed.
use Rattle.std.proofs.lemmas.Bool.Decides.{nat_tests}
use Rattle.std.proofs.Common.{◌≡◌, ℕ, ◌<◌, inl, inr, List, set, get_or, sym, ap, subst, ◌∙◌, arith, Some, None}
use Rattle.std.specs.Prelude.{slice_get, slice_index}
use Rattle.std.proofs.lemmas.Bool.{cases_lt}
use Rattle.std.proofs.lemmas.Option.{slice_get-get_or, slice_get_within}
use Rattle.arena_items.specs.declared.item.Item.{Ghosts}
use Rattle.hash_ring.specs.Slots.{spot, IsAway, IsOrdered}
use Rattle.hash_ring.specs.Marks.{home_of, mark_of}
use Rattle.std.proofs.Math.Nat.{mod-lt}
use Rattle.hash_ring.proofs.Order.{away-put, away-free}
use Rattle.hash_ring.proofs.Passing.{AreMarked}
use Rattle.hash_ring.proofs.Places.{not_free}
use Rattle.arena_table.specs.Edits.{SetsSlot}
use Rattle.arena_table.specs.Tables.{slots_of, IsShape, IsTable}
use Rattle.arena_table.proofs.SlotLemmas.{slots-long, slot-taken, slot-within-long}

module _ {K V : Type 0} (keys : Ghosts K) (values : Ghosts V) (hash : K × V → ℕ) (n : ℕ) (some : 0 < n) (old new : List ℕ)
    (shape : IsShape keys values n old) (table : IsTable keys values hash n old) where
  homes : (p : K × V) → home_of n (hash p) < n
  homes p = mod-lt (hash p) some

  -- each slot holds a pair, or is free
  was : (i : ℕ) → i < n → slice_get (slots_of keys values n old) i ≡ Some (get_or (slots_of keys values n old) i None)
  was i h = slice_get-get_or (slots_of keys values n old) i None (omega (arith, slots-long keys values n old shape))

  -- a slot of the old bytes that holds a pair is one of the ring's
  inside : (i : ℕ) (x : K × V) → slice_get (slots_of keys values n old) i ≡ Some (Some x) → i < n
  inside i x s = slot-within-long keys values n old shape i x s

  -- A pair is put, with its mark.
  pub table-put : (i : ℕ) (x : K × V) (d m : ℕ) → i < n → d < n → i ≡ spot n (home_of n (hash x)) d → m ≡ mark_of (hash x) d
      → SetsSlot keys values n old new i m (Some x) → IsOrdered (λ p. home_of n (hash p)) n (set (slots_of keys values n old) i (Some x))
      → IsTable keys values hash n new
  table-put i x d m within less place mark sets ordered = record {
    ordered = subst (IsOrdered (λ p. home_of n (hash p)) n) (sym sets.slots) ordered;
    marks = λ j e y a.
        let a' = subst (λ w. IsAway (λ p. home_of n (hash p)) n w j y e) sets.slots a in
        elim (away-put (λ p. home_of n (hash p)) n homes (slots_of keys values n old) i (get_or (slots_of keys values n old) i None) x d j
        y e (was i within) less place a') [
          | inl c ↦ ap (λ k. get_or new k 0) c.0 ∙ (sets.here ∙ (mark ∙ (λ k. mark_of (hash (sym c.1 k)) (sym c.2 k))))
          | inr c ↦ sets.others j (inside j y c.1.there) c.0 ∙ table.marks j e y c.1
        ];
  }

  -- A slot is freed.
  pub table-free : (i : ℕ) → i < n → SetsSlot keys values n old new i 0 None
      → IsOrdered (λ p. home_of n (hash p)) n (set (slots_of keys values n old) i None)
      → IsTable keys values hash n new
  table-free i within sets ordered = record {
    ordered = subst (IsOrdered (λ p. home_of n (hash p)) n) (sym sets.slots) ordered;
    marks = λ j e y a.
        let a' = subst (λ w. IsAway (λ p. home_of n (hash p)) n w j y e) sets.slots a in
        let c = away-free _ _ homes (slots_of keys values n old) i (get_or (slots_of keys values n old) i None) _ _ _ (was i within) a' in
        sets.others j (inside j y c.1.there) c.0 ∙ table.marks j e y c.1;
  }

-- a table's bytes are its slots' marks
pub table-marked : {K V : Type 0} (keys : Ghosts K) (values : Ghosts V) (hash : K × V → ℕ) (n : ℕ) (some : 0 < n) (bytes : List ℕ)
    → IsShape keys values n bytes → IsTable keys values hash n bytes
    → AreMarked hash n some (slots_of keys values n bytes) (λ i. slice_index bytes i)
table-marked keys values hash n some bytes shape t =
    grind (arith, nat_tests, cases_lt, get_or, slots-long, slice_get_within, slot-taken, not_free)
