-- Copies between the parts of a table.
use Rattle.std.proofs.lemmas.Bool.Decides.{nat_tests}
use Rattle.std.proofs.Common.{◌≡◌, ℕ, ◌-◌, ◌<◌, sym, refl, ◌∙◌, arith, List, ◌++◌, length, get_or, take, drop}
use Rattle.std.specs.Prelude.{slice_set}
use Rattle.std.proofs.lemmas.List.{get_or_append_left, get_or-append_right, set-append_left, set-append_right}
use Rattle.arena_region.specs.Bytes.{Bytes, bytes, written_from}
use Rattle.arena_store.specs.Copies.{CopiesKept}
use Rattle.arena_store.specs.declared.table.Kept.{Kept}

pub copied_same : (kept : List Kept) (i j : ℕ) (k : Kept) (new : List ℕ) (from to n : ℕ) → i ≡ j → k ≡ get_or kept j k
    → new ≡ written_from k.bytes.items to (take n (drop from k.bytes.items))
    → CopiesKept kept (slice_set kept j (record { bytes = bytes new k.bytes.low; used = k.used })) i j from to n
copied_same kept i j k new from to n same at is = grind (arith, nat_tests)

-- from the first part of the table to the second, and from the second to the first
pub copied_up : (kept low high : List Kept) (i j : ℕ) (s t : Kept) (new : Bytes) (from to n : ℕ) → kept ≡ low ++ high → length low ≡ j
    → i < j → s ≡ get_or low i s → t ≡ get_or high 0 t
    → new ≡ bytes (written_from t.bytes.items to (take n (drop from s.bytes.items))) t.bytes.low
    → CopiesKept kept (low ++ slice_set high 0 (record { bytes = new; used = t.used })) i j from to n
copied_up kept low high i j s t new from to n parts sized below at_s at_t is =
    let first : j - j ≡ 0 = omega arith in
    record {
      source = s;
      target = t;
      at_source = at_s ∙ sym (rw parts (get_or_append_left low high s i (omega (arith, sized, below))));
      at_target = at_t ∙ sym (rw parts (get_or-append_right low high j j t sized (omega arith) ∙ rw first refl));
      table = rw is (sym (rw parts (set-append_right low high j j _ sized (omega arith) ∙ rw first refl)));
    }

pub copied_down : (kept low high : List Kept) (i j : ℕ) (s t : Kept) (new : Bytes) (from to n : ℕ) → kept ≡ low ++ high → length low ≡ i
    → j < i → s ≡ get_or high 0 s → t ≡ get_or low j t
    → new ≡ bytes (written_from t.bytes.items to (take n (drop from s.bytes.items))) t.bytes.low
    → CopiesKept kept (slice_set low j (record { bytes = new; used = t.used }) ++ high) i j from to n
copied_down kept low high i j s t new from to n parts sized below at_s at_t is =
    let first : i - i ≡ 0 = omega arith in
    record {
      source = s;
      target = t;
      at_source = at_s ∙ sym (rw parts (get_or-append_right low high i i s sized (omega arith) ∙ rw first refl));
      at_target = at_t ∙ sym (rw parts (get_or_append_left low high t j (omega (arith, sized, below))));
      table = rw is (sym (rw parts (set-append_left low high j _ (omega (arith, sized, below)))));
    }
