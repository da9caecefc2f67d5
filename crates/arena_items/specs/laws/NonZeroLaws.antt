-- Numbers that are not 0 are decoded from their bytes.
use Rattle.std.specs.Prelude.{◌≡◌, ℕ, zero, suc, ◌^◌, ◌<◌, max, refl, ℤ, pos, negsuc, unsigned_abs, FitsSigned}
use Rattle.std.specs.Int.{Width, byte_at, byte_worth, sum_through}
use Rattle.std.specs.Coded.{le_prop}
use Rattle.std.specs.declared.num.NonZeroU8.{NonZeroU8}
use Rattle.std.specs.declared.num.NonZeroU16.{NonZeroU16}
use Rattle.std.specs.declared.num.NonZeroU32.{NonZeroU32}
use Rattle.std.specs.declared.num.NonZeroU64.{NonZeroU64}
use Rattle.std.specs.declared.num.NonZeroU128.{NonZeroU128}
use Rattle.std.specs.declared.num.NonZeroUsize.{NonZeroUsize}
use Rattle.std.specs.declared.num.NonZeroI8.{NonZeroI8}
use Rattle.std.specs.declared.num.NonZeroI16.{NonZeroI16}
use Rattle.std.specs.declared.num.NonZeroI32.{NonZeroI32}
use Rattle.std.specs.declared.num.NonZeroI64.{NonZeroI64}
use Rattle.std.specs.declared.num.NonZeroI128.{NonZeroI128}
use Rattle.std.specs.declared.num.NonZeroIsize.{NonZeroIsize}
use Rattle.std.proofs.Common.{ap, subst, arith}
use Rattle.arena_items.specs.NumberForms.{signed_bytes, signed_of}
use Rattle.arena_items.specs.NonZeroForms.{not_0_or}
use Rattle.arena_items.specs.laws.NumberLaws.{bytes_back, signed_back}

-- a number above 0 is not replaced
pub max_back : (n : ℕ) → 0 < n → max 1 n ≡ n
max_back n p = omega arith

-- the bytes of a number that isn't 0 give it back
pub above_0_back : (k n : ℕ) → 0 < n → n < 256 ^ suc k → max 1 (sum_through (λ i. byte_worth i (byte_at i n)) k) ≡ n
above_0_back k n p h = rw (bytes_back k n h) (max_back n p)

not_0_same : (m : ℕ) (z : ℤ) → 0 < unsigned_abs z → not_0_or m z ≡ z
not_0_same m (pos zero) p = absurd (omega arith)
not_0_same m (pos (suc k)) p = refl
not_0_same m (negsuc k) p = refl

pub not_0_back : (w : Width) (m : ℕ) (z : ℤ) → 0 < unsigned_abs z → FitsSigned w z
    → not_0_or m (signed_of w (signed_bytes w z)) ≡ z
not_0_back w m z p h = rw (signed_back w z h) (not_0_same m z p)

-- two values of the same number are equal, whatever proof they hold that it isn't 0
module _ {N A : Type 0} (size : A → ℕ) (make : (x : A) → 0 < size x → N) (x y : A) (p : 0 < size x) (q : 0 < size y) where
  made_same : x ≡ y → make x p ≡ make y q
  made_same e = subst (λ z. (r : 0 < size z) → make x p ≡ make z r) e (λ r. ap (make x) (le_prop p r)) q

pub same_u8 : (x y : NonZeroU8) → x.value ≡ y.value → x ≡ y
same_u8 x y e = made_same (λ n. n) (λ n p. record { value = n; ok = p }) x.value y.value x.ok y.ok e

pub same_u16 : (x y : NonZeroU16) → x.value ≡ y.value → x ≡ y
same_u16 x y e = made_same (λ n. n) (λ n p. record { value = n; ok = p }) x.value y.value x.ok y.ok e

pub same_u32 : (x y : NonZeroU32) → x.value ≡ y.value → x ≡ y
same_u32 x y e = made_same (λ n. n) (λ n p. record { value = n; ok = p }) x.value y.value x.ok y.ok e

pub same_u64 : (x y : NonZeroU64) → x.value ≡ y.value → x ≡ y
same_u64 x y e = made_same (λ n. n) (λ n p. record { value = n; ok = p }) x.value y.value x.ok y.ok e

pub same_u128 : (x y : NonZeroU128) → x.value ≡ y.value → x ≡ y
same_u128 x y e = made_same (λ n. n) (λ n p. record { value = n; ok = p }) x.value y.value x.ok y.ok e

pub same_usize : (x y : NonZeroUsize) → x.value ≡ y.value → x ≡ y
same_usize x y e = made_same (λ n. n) (λ n p. record { value = n; ok = p }) x.value y.value x.ok y.ok e

pub same_i8 : (x y : NonZeroI8) → x.value ≡ y.value → x ≡ y
same_i8 x y e = made_same unsigned_abs (λ z p. record { value = z; ok = p }) x.value y.value x.ok y.ok e

pub same_i16 : (x y : NonZeroI16) → x.value ≡ y.value → x ≡ y
same_i16 x y e = made_same unsigned_abs (λ z p. record { value = z; ok = p }) x.value y.value x.ok y.ok e

pub same_i32 : (x y : NonZeroI32) → x.value ≡ y.value → x ≡ y
same_i32 x y e = made_same unsigned_abs (λ z p. record { value = z; ok = p }) x.value y.value x.ok y.ok e

pub same_i64 : (x y : NonZeroI64) → x.value ≡ y.value → x ≡ y
same_i64 x y e = made_same unsigned_abs (λ z p. record { value = z; ok = p }) x.value y.value x.ok y.ok e

pub same_i128 : (x y : NonZeroI128) → x.value ≡ y.value → x ≡ y
same_i128 x y e = made_same unsigned_abs (λ z p. record { value = z; ok = p }) x.value y.value x.ok y.ok e

pub same_isize : (x y : NonZeroIsize) → x.value ≡ y.value → x ≡ y
same_isize x y e = made_same unsigned_abs (λ z p. record { value = z; ok = p }) x.value y.value x.ok y.ok e
