-- The ends of chunks and the sums over all chunks fit 64 bits.
use Rattle.std.proofs.Common.{◌≡◌, ℕ, zero, suc, ◌+◌, ◌^◌, ◌<◌, ◌≤◌, arith, refl, List, [], ◌∷◌, map, Bool, true, false}
use Rattle.std.specs.Prelude.{sum, All, nat_le, ◌&&◌, ◌||◌}
use Rattle.std.proofs.lemmas.Bool.Decides.{nat_tests}
use Rattle.std.proofs.lemmas.List.Elements.{All-tail}
use Rattle.std.proofs.lemmas.List.Sums.{sum-map, sum_by-cons}
use Rattle.arena_rules.specs.State.{Chunk, IsChunk, AreChunks, floor_of, data_end, is_range_used}

pub sum_below : (m : ℕ) (f : Chunk → ℕ) → (chunks : List Chunk) → ((c : Chunk) → IsChunk m c → f c ≤ c.size) → AreChunks m chunks
    → sum (map f chunks) ≤ floor_of chunks
sum_below m f [] each valid = omega arith
sum_below m f (newest ∷ older) each valid =
    omega (
      arith,
      each newest valid.0,
      sum_below m f older each valid.2,
      valid.1,
      sum-map f (newest ∷ older),
      sum-map f older,
      sum_by-cons f newest older,
    )

pub ends_below : (m top : ℕ) → (chunks : List Chunk) → AreChunks m chunks → floor_of chunks < top
    → All (λ c. (c.cursor ≤ data_end c) × (data_end c < top)) chunks
ends_below m top [] valid below k d low = absurd (omega arith)
ends_below m top (newest ∷ older) valid below zero d low = (valid.0.cursor_high, omega arith)
ends_below m top (newest ∷ older) valid below (suc k) d low =
    ends_below m top older valid.2 (omega (arith, valid.0.cursor_low, valid.0.cursor_high, valid.1)) k d (omega arith)

-- a range that exceeds 64 bits is in no chunk
pub none_past : (addr n : ℕ) (chunks : List Chunk) → 2 ^ 64 ≤ addr + n → All (λ c. (c.cursor ≤ data_end c) × (data_end c < 2 ^ 64)) chunks
    → is_range_used chunks addr n ≡ false
none_past addr n [] past fit = refl
none_past addr n (newest ∷ older) past fit =
    let end = (fit 0 newest (omega arith)).1 in
    let over : nat_le (addr + n) (data_end newest) ≡ false = grind (arith, nat_tests) in
    rw (over, none_past addr n older past (All-tail (λ c. (c.cursor ≤ data_end c) × (data_end c < 2 ^ 64)) newest older fit))
    (both (nat_le newest.cursor addr))
  where
    both : (b : Bool) → (b && false || false) ≡ false
    both true = refl
    both false = refl
