-- A pair is put into a table's bytes, and others move on.
use Rattle.std.proofs.Common.{◌≡◌, ℕ, ◌+◌, ◌%◌, ◌<◌, List, length, get_or, sym, subst, ◌∙◌, arith, Some, None}
use Rattle.std.specs.Prelude.{slice_get}
use Rattle.arena_items.specs.declared.item.Item.{Ghosts}
use Rattle.hash_ring.specs.Slots.{spot, items, IsPlaceFor, Settled}
use Rattle.hash_ring.specs.Marks.{home_of, mark_of}
use Rattle.std.proofs.Math.Nat.{mod-lt}
use Rattle.hash_ring.proofs.Order.{away-of}
use Rattle.hash_ring.proofs.RingLemmas.{next-spot}
use Rattle.hash_ring.proofs.Settle.{Settling, settling-start, settling-less, settling-swap, settling-done}
use Rattle.arena_table.specs.Edits.{SetsSlot}
use Rattle.arena_table.specs.Tables.{slots_of, IsShape, IsTable}
use Rattle.arena_table.proofs.SlotLemmas.{slots-long}
use Rattle.arena_table.proofs.TableLemmas.{table-put}

module _ {K V : Type 0} (keys : Ghosts K) (values : Ghosts V) (hash : K × V → ℕ) (n : ℕ) where
  -- After some steps from the slot `start` on: this pair is carried, and goes to the slot i with this mark.
  pub record Putting (start : ℕ) (from : List ℕ) (first : K × V) (steps : ℕ) (bytes : List ℕ) (x : K × V) (i mark : ℕ) : Type 0 where
    pub distance : ℕ
    pub settling : Settling (λ p. home_of n (hash p)) n start (slots_of keys values n from) first steps (slots_of keys values n bytes) x i
        distance
    pub table : IsTable keys values hash n bytes
    pub mark_is : mark ≡ mark_of (hash x) distance

  module _ (some : 0 < n) where
    homes : (p : K × V) → home_of n (hash p) < n
    homes p = mod-lt (hash p) some

    pub putting-start : (from : List ℕ) (x : K × V) (at d mark : ℕ) → IsTable keys values hash n from
        → IsPlaceFor (λ p. home_of n (hash p)) n (slots_of keys values n from) (home_of n (hash x)) at d → mark ≡ mark_of (hash x) d
        → Putting at from x 0 from x at mark
    putting-start from x at d mark table place is = record {
      distance = d;
      settling = settling-start (λ p. home_of n (hash p)) n homes (slots_of keys values n from) x at d table.ordered place;
      table = table;
      mark_is = is;
    }

    -- the walk goes less than a round
    pub putting-less : (start : ℕ) (from : List ℕ) (first : K × V) (steps : ℕ) (bytes : List ℕ) (x : K × V) (i mark : ℕ) → start < n
        → length (items (slots_of keys values n from)) < n → Putting start from first steps bytes x i mark → steps < n
    putting-less start from first steps bytes x i mark begun room s =
        settling-less _ _ homes _ _ _ _ _ _ _ _ s.settling begun room

    -- a mark that is carried isn't that of a free slot
    pub putting-marked : (start : ℕ) (from : List ℕ) (first : K × V) (steps : ℕ) (bytes : List ℕ) (x : K × V) (i mark : ℕ)
        → Putting start from first steps bytes x i mark → 0 < mark
    putting-marked start from first steps bytes x i mark s = omega (arith, s.mark_is)

    module _ (start : ℕ) (from : List ℕ) (first : K × V) (steps : ℕ) (old new : List ℕ) (x : K × V) (i mark : ℕ) (begun : start < n)
        (room : length (items (slots_of keys values n from)) < n) (shape : IsShape keys values n old) (within : i < n)
        (s : Putting start from first steps old x i mark) (sets : SetsSlot keys values n old new i mark (Some x)) where
      -- the pair that was there is carried from here on
      pub putting-on : (y : K × V) (k : K) (v : V) (next more : ℕ) → slice_get (slots_of keys values n old) i ≡ Some (Some y) → k ≡ y.0
          → v ≡ y.1
          → next ≡ (i + 1) % n → ((e : ℕ) → get_or old i 0 ≡ mark_of (hash y) e → more ≡ mark_of (hash y) (e + 1))
          → Putting start from first (steps + 1) new (k, v) next more
      putting-on y k v next more there key value is farther =
          let slots = slots_of keys values n old in
          let away = away-of (λ p. home_of n (hash p)) _ homes slots i y (slots-long _ _ _ _ shape) there in
          let on = settling-swap _ _ homes _ _ _ _ _ _ _ _ s.settling begun room _ _ away.1 in
          let to : spot n i 1 ≡ next = sym (is ∙ next-spot n i within) in
          let r : Putting start from first (steps + 1) new y (spot n i 1) more = record {
            distance = away.0 + 1;
            settling = subst (λ w. Settling (λ p. home_of n (hash p)) n start (slots_of keys values n from) first (steps + 1) w y
                (spot n i 1) (away.0 + 1)) (sym sets.slots) on;
            table = table-put _ _ _ _ some _ _ shape s.table _ x s.distance _ within s.settling.carried.less s.settling.carried.place
                s.mark_is sets on.ordered;
            mark_is = farther away.0 (s.table.marks i away.0 y away.1);
          } in
          subst (λ w. Putting start from first (steps + 1) new (k, v) w more) to
          (subst (λ w. Putting start from first (steps + 1) new w (spot n i 1) more) (λ q. (sym key q, sym value q)) r)

      -- the slot was free
      pub putting-done : slice_get (slots_of keys values n old) i ≡ Some None
          → IsTable keys values hash n new × Settled (slots_of keys values n from) (slots_of keys values n new) first
      putting-done free =
          let done = settling-done _ _ homes _ _ _ _ _ _ _ _ s.settling free in (
            table-put _ _ _ _ some _ _ shape s.table _ x s.distance _ within s.settling.carried.less s.settling.carried.place s.mark_is sets
                done.0,
            subst (λ w. Settled (slots_of keys values n from) w first) (sym sets.slots) done.1,
          )
