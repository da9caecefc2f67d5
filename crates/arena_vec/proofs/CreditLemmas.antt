-- What amortised growth does to a capacity, and what it costs.
use Rattle.std.proofs.Common.{◌≡◌, ℕ, ◌+◌, ◌-◌, ◌*◌, ◌^◌, ◌<◌, ◌≤◌, max, refl, sym, arith, inl, inr, Ok, Err, List}
use Rattle.std.specs.Prelude.{Result, IsOkAnd}
use Rattle.std.proofs.lemmas.Bool.{cases_lt}
use Rattle.std.proofs.lemmas.Bool.Decides.{nat_tests}
use Rattle.std.proofs.Math.Nat.{mul-le-mul_left, mul-le-mul_right}
use Rattle.arena_chunks.specs.Source.{View}
use Rattle.arena_chunks.specs.Answers.{Answer}
use Rattle.arena_store.specs.declared.block.Block.{Block}
use Rattle.arena_items.specs.declared.item.Item.{Ghosts}
use Rattle.arena_items.specs.Room.{capacity_after, MakesRoom, RoomAnswer}
use Rattle.arena_items.specs.declared.room.AllocError.{AllocError}
use Rattle.arena_items.specs.declared.room.AllocError.TheVariants.{CapacityOverflow}
use Rattle.arena_items.specs.declared.room.Growth.TheVariants.{Stays, GrowsTo}
use Rattle.arena_vec.specs.Changes.{Grows}
use Rattle.arena_vec.specs.Credit.{asked_by, credit_of}
use Rattle.raw_vec.specs.Growth.{fits, amortised, growth_to, amortised_growth}
use Rattle.arena_vec.specs.declared.vec.Vec.{Vec}

-- ---- Which growth it is

pub stays : (size cap required : ℕ) → required ≤ cap → amortised_growth size cap required ≡ Stays
unfolding growth_to
stays size cap required room = grind (arith, nat_tests)

pub grows : (size cap required : ℕ) → cap < required → required < 2 ^ 32 → required * size < 2 ^ 32
    → amortised_growth size cap required ≡ GrowsTo (amortised size cap required)
unfolding growth_to fits
grows size cap required full few bytes = grind (arith, nat_tests)

pub twice : (size cap required m : ℕ) → m ≡ max (2 * cap) required → m < 2 ^ 32 → m * size < 2 ^ 32 → amortised size cap required ≡ m
unfolding amortised fits
twice size cap required m is few bytes = rw (sym is) (grind (arith, nat_tests))

-- ---- The capacity

-- It is no less.
pub keeps : (size cap required : ℕ) → cap ≤ capacity_after (amortised_growth size cap required) cap
unfolding growth_to amortised
keeps size cap required = grind (arith, nat_tests)

pub vec_keeps : {X T : Type 0} (item : Ghosts T) (old new : View) (v w : Vec T) (required : ℕ) (list : List T)
    (result : Result X AllocError) → Grows item old new v (amortised_growth item.SIZE v.raw.cap required) list w result
    → v.raw.cap ≤ w.raw.cap
vec_keeps item old new v w required list (Ok x) grows = rw grows.cap (keeps item.SIZE v.raw.cap required)
vec_keeps item old new v w required list (Err e) grows = rw grows.err.0 (omega arith)

-- ---- The bytes

-- less than twice what is required fits
bounds : (size m required : ℕ) → m + 1 ≤ 2 * required → required ≤ m → 0 < size → required * (2 * size) ≤ 2 ^ 32
    → (m < 2 ^ 32) × (m * size < 2 ^ 32) × (required < 2 ^ 32) × (required * size < 2 ^ 32)
bounds size m required half least some few =
    let bytes : (m + 1) * size ≤ 2 * required * size = mul-le-mul_right size half in
    let number : m * 1 ≤ m * size = mul-le-mul_left m (let one : 1 ≤ size = omega (arith, some) in one) in
    let less : required * size ≤ m * size = mul-le-mul_right size least in (
      omega (arith, bytes, number, few, some),
      omega (arith, bytes, few, some),
      omega (arith, bytes, number, few, some, least),
      omega (arith, bytes, few, some, less),
    )

scaled : (size m a b n : ℕ) → m + 2 * a ≤ 2 * b + 4 * n → m * size + 2 * size * a ≤ 2 * size * b + 4 * n * size
scaled size m a b n h = let all : size * (m + 2 * a) ≤ size * (2 * b + 4 * n) = mul-le-mul_left size h in omega (arith, all)

pub asks : (size cap len n : ℕ) → len ≤ cap → 0 < size → (len + n) * (2 * size) ≤ 2 ^ 32
    → asked_by size (amortised_growth size cap (len + n)) + credit_of size (len + n)
    (capacity_after (amortised_growth size cap (len + n)) cap)
    ≤ credit_of size len cap + 4 * n * size
asks size cap len n within some few = elim (cases_lt cap (len + n)) [
  | inl full ↦
      let m = max (2 * cap) (len + n) in
      let half : m + 1 ≤ 2 * (len + n) = omega (arith, full) in
      let least : len + n ≤ m = omega arith in
      let numbers = bounds size m (len + n) half least some few in
      rw (grows size cap (len + n) full numbers.2 numbers.3, twice size cap (len + n) m refl numbers.0 numbers.1)
      (scaled size m (2 * (len + n) - m) (2 * len - cap) n (omega (arith, full, within)))
  | inr room ↦ rw (stays size cap (len + n) room)
      (let all = scaled size 0 (2 * (len + n) - cap) (2 * len - cap) n (omega (arith, room, within)) in omega (arith, all))
]

-- ---- Refusals

module _ {X : Type 0} (f : X → Block) where
  -- An arena never reports an overflow,
  no_overflow : (result : Result X AllocError) (P : Answer → Type 0) → RoomAnswer f result P → ¬ (result ≡ Err CapacityOverflow)
  no_overflow (Err CapacityOverflow) P a is = absurd a
  no_overflow result P a is = cc

  none_refused : (result : Result X AllocError) (P : X → Type 0) → IsOkAnd result P → ¬ (result ≡ Err CapacityOverflow)
  none_refused (Ok x) P a is = cc
  none_refused (Err e) P a is = absurd a

  -- so there is none if what is required fits.
  pub fits_then : (size align cap required : ℕ) (old new : View) (block : Block) (result : Result X AllocError)
      → required < 2 ^ 32 → required * size < 2 ^ 32
      → MakesRoom size align old new block cap (amortised_growth size cap required) f result → ¬ (result ≡ Err CapacityOverflow)
  fits_then size align cap required old new block result few bytes made = elim (cases_lt cap required) [
    | inl full ↦ no_overflow result _ (rw (grows size cap required full few bytes) at made).took
    | inr room ↦ none_refused result _ (rw (stays size cap required room) at made).0
  ]
