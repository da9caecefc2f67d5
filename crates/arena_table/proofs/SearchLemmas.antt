-- Searches over a table's bytes.
use Rattle.std.proofs.lemmas.Bool.Decides.{nat_tests}
use Rattle.std.proofs.Common.{◌≡◌, ℕ, ◌+◌, ◌*◌, ◌/◌, ◌%◌, ◌<◌, ◌≤◌, List, length, sym, subst, arith, Some}
use Rattle.std.specs.Prelude.{slice_get, slice_index}
use Rattle.std.proofs.Math.Nat.{mod-lt}
use Rattle.arena_items.specs.declared.item.Item.{Ghosts}
use Rattle.hash_ring.specs.Searches.{IsPassed, IsSpotFor}
use Rattle.hash_ring.specs.Slots.{spot, items, Lacks}
use Rattle.hash_ring.specs.Marks.{home_of, mark_of}
use Rattle.hash_ring.proofs.Find.{Passed, Stops, passed-more}
use Rattle.hash_ring.proofs.Homes.{step-place}
use Rattle.hash_ring.proofs.Passing.{AreMarked, marked-passes, marked-stops, marked-spot, marked-less, marked-same, marked-lacks, mark-passed-none}
use Rattle.hash_ring.proofs.RingLemmas.{spot-zero}
use Rattle.arena_table.specs.Tables.{slots_of, IsShape, IsTable}
use Rattle.arena_table.proofs.SlotLemmas.{slot-taken}
use Rattle.arena_table.proofs.TableLemmas.{table-marked}

module _ {K V : Type 0} (keys : Ghosts K) (values : Ghosts V) (n : ℕ) (bytes : List ℕ) (hash : ℕ) where
  -- A search for a hash is this many slots from its home.
  pub record Seeking (k at mark : ℕ) : Type 0 where
    pub within : at < n
    pub place : at ≡ spot n (home_of n hash) k
    pub mark_is : mark ≡ mark_of hash k
    pub passed : (h : K × V → ℕ) → IsTable keys values h n bytes
        → IsPassed (λ p. home_of n (h p)) n (slots_of keys values n bytes) (home_of n hash) k

  module _ (some : 0 < n) (shape : IsShape keys values n bytes) where
    marked : (h : K × V → ℕ) → IsTable keys values h n bytes → AreMarked h n some (slots_of keys values n bytes) (λ i. slice_index bytes i)
    marked h table = table-marked keys values h n some bytes shape table

    pub seeking-start : (at mark : ℕ) → at ≡ hash % n → mark ≡ mark_of hash 0 → Seeking 0 at mark
    seeking-start at mark place is = grind (arith, nat_tests, mod-lt, spot-zero, mark-passed-none)

    -- a slot with the mark that is sought holds a pair
    pub seeking-taken : (k at mark : ℕ) → Seeking k at mark → slice_index bytes at ≡ mark
        → (x : K × V) × (slice_get (slots_of keys values n bytes) at ≡ Some (Some x))
    seeking-taken k at mark s is =
        slot-taken keys values n bytes shape at s.within (omega (arith, is, s.mark_is))

    -- a whole round meets a free slot
    pub seeking-less : (k at mark : ℕ) → Seeking k at mark → (h : K × V → ℕ) → IsTable keys values h n bytes
        → length (items (slots_of keys values n bytes)) < n → k < n
    seeking-less k at mark s h table room =
        marked-less h n some (slots_of keys values n bytes) (λ i. slice_index bytes i) (marked h table) hash k room (s.passed h table)

    module _ (k at mark : ℕ) (less : k < n) (s : Seeking k at mark) where
      -- the slot is passed
      pub seeking-on : (next more : ℕ) → mark / 16 * 16 ≤ slice_index bytes at → next ≡ (at + 1) % n → more ≡ mark_of hash (k + 1)
          → Seeking (k + 1) next more
      seeking-on next more high is mark' = record {
        within = subst (λ p. p < n) (sym is) (mod-lt (at + 1) some);
        place = step-place n (home_of n hash) k at next (mod-lt hash some) less s.place is;
        mark_is = mark';
        passed = λ h table. marked-passes h _ some _ (λ i. slice_index bytes i) (marked _ table) hash _ less (s.passed h table)
            (subst (λ p. mark_of hash k / 16 * 16 ≤ slice_index bytes p) s.place
            (subst (λ m. m / 16 * 16 ≤ slice_index bytes at) s.mark_is high));
      }

      -- a pair that was passed has another content: its mark is another, or its content was compared
      pub seeking-other : mark / 16 * 16 ≤ slice_index bytes at → (h : K × V → ℕ) → IsTable keys values h n bytes
          → (content : K × V → List ℕ) (q : List ℕ)
          → ((x : K × V) → content x ≡ q → h x ≡ hash)
          → (slice_index bytes at ≡ mark → (x : K × V) → slice_get (slots_of keys values n bytes) at ≡ Some (Some x) → content x ≡ q → ⊥)
          → Passed n content q (home_of n hash) (slots_of keys values n bytes) k
          → Passed n content q (home_of n hash) (slots_of keys values n bytes) (k + 1)
      seeking-other high h table content q hashed other passed = grind (arith, nat_tests, slot-taken, passed-more, marked-same, marked)

      -- the search stops there
      module _ (h : K × V → ℕ) (table : IsTable keys values h n bytes) (low : slice_index bytes at < mark / 16 * 16) where
        stops : Stops (λ p. home_of n (h p)) n (home_of n hash) (slots_of keys values n bytes) k
        stops = marked-stops h n some (slots_of keys values n bytes) (λ i. slice_index bytes i) (marked h table) hash k less
            (subst (λ p. slice_index bytes p < mark_of hash k / 16 * 16) s.place
            (subst (λ m. slice_index bytes at < m / 16 * 16) s.mark_is low))

        pub seeking-spot : IsSpotFor (λ p. home_of n (h p)) n (slots_of keys values n bytes) hash at mark
        seeking-spot =
            subst (λ m. IsSpotFor (λ p. home_of n (h p)) n (slots_of keys values n bytes) hash at m) (sym s.mark_is)
            (subst (λ p. IsSpotFor (λ p. home_of n (h p)) n (slots_of keys values n bytes) hash p (mark_of hash k)) (sym s.place)
            (marked-spot h _ some _ (λ i. slice_index bytes i) (marked _ table) hash _ less (s.passed h table) stops))

        pub seeking-lacks : (content : K × V → List ℕ) (q : List ℕ)
            → ((j : ℕ) (x : K × V) → slice_get (slots_of keys values n bytes) j ≡ Some (Some x) → content x ≡ q → h x ≡ hash)
            → Passed n content q (home_of n hash) (slots_of keys values n bytes) k → Lacks content (slots_of keys values n bytes) q
        seeking-lacks content q hashed passed =
            marked-lacks h _ some _ (λ i. slice_index bytes i) (marked _ table) _ _ hash _ hashed passed stops
