-- Numbers that are not 0, and what takes the place of 0.
use Rattle.std.specs.Prelude.{ℕ, zero, suc, ◌-◌, ◌^◌, ◌<◌, max, ℤ, pos, negsuc, unsigned_abs}
use Rattle.std.proofs.Common.{arith}
use Rattle.std.specs.declared.num.NonZeroU8.{NonZeroU8}
use Rattle.std.specs.declared.num.NonZeroU16.{NonZeroU16}
use Rattle.std.specs.declared.num.NonZeroU32.{NonZeroU32}
use Rattle.std.specs.declared.num.NonZeroU64.{NonZeroU64}
use Rattle.std.specs.declared.num.NonZeroU128.{NonZeroU128}
use Rattle.std.specs.declared.num.NonZeroUsize.{NonZeroUsize}
use Rattle.std.specs.declared.num.NonZeroI8.{NonZeroI8}
use Rattle.std.specs.declared.num.NonZeroI16.{NonZeroI16}
use Rattle.std.specs.declared.num.NonZeroI32.{NonZeroI32}
use Rattle.std.specs.declared.num.NonZeroI64.{NonZeroI64}
use Rattle.std.specs.declared.num.NonZeroI128.{NonZeroI128}
use Rattle.std.specs.declared.num.NonZeroIsize.{NonZeroIsize}

-- 1 takes the place of 0
pub above_0 : (n : ℕ) → 0 < max 1 n
above_0 n = omega arith

-- a number as a value of each type
abbrev pub non_zero_u8 : ℕ → NonZeroU8
non_zero_u8 n = record { value = max 1 n; ok = above_0 n }

abbrev pub non_zero_u16 : ℕ → NonZeroU16
non_zero_u16 n = record { value = max 1 n; ok = above_0 n }

abbrev pub non_zero_u32 : ℕ → NonZeroU32
non_zero_u32 n = record { value = max 1 n; ok = above_0 n }

abbrev pub non_zero_u64 : ℕ → NonZeroU64
non_zero_u64 n = record { value = max 1 n; ok = above_0 n }

abbrev pub non_zero_u128 : ℕ → NonZeroU128
non_zero_u128 n = record { value = max 1 n; ok = above_0 n }

abbrev pub non_zero_usize : ℕ → NonZeroUsize
non_zero_usize n = record { value = max 1 n; ok = above_0 n }

-- -(m + 1), the minimum of the type, takes the place of 0
abbrev pub not_0_or : ℕ → ℤ → ℤ
not_0_or m (pos zero) = negsuc m
not_0_or m (pos (suc k)) = pos (suc k)
not_0_or m (negsuc k) = negsuc k

pub not_0 : (m : ℕ) (z : ℤ) → 0 < unsigned_abs (not_0_or m z)
not_0 m (pos zero) = omega arith
not_0 m (pos (suc k)) = omega arith
not_0 m (negsuc k) = omega arith

abbrev pub non_zero_i8 : ℤ → NonZeroI8
non_zero_i8 z = record { value = not_0_or (2 ^ 7 - 1) z; ok = not_0 (2 ^ 7 - 1) z }

abbrev pub non_zero_i16 : ℤ → NonZeroI16
non_zero_i16 z = record { value = not_0_or (2 ^ 15 - 1) z; ok = not_0 (2 ^ 15 - 1) z }

abbrev pub non_zero_i32 : ℤ → NonZeroI32
non_zero_i32 z = record { value = not_0_or (2 ^ 31 - 1) z; ok = not_0 (2 ^ 31 - 1) z }

abbrev pub non_zero_i64 : ℤ → NonZeroI64
non_zero_i64 z = record { value = not_0_or (2 ^ 63 - 1) z; ok = not_0 (2 ^ 63 - 1) z }

abbrev pub non_zero_i128 : ℤ → NonZeroI128
non_zero_i128 z = record { value = not_0_or (2 ^ 127 - 1) z; ok = not_0 (2 ^ 127 - 1) z }

abbrev pub non_zero_isize : ℤ → NonZeroIsize
non_zero_isize z = record { value = not_0_or (2 ^ 63 - 1) z; ok = not_0 (2 ^ 63 - 1) z }
