-- Values that were placed in arenas and read back.
use Rattle.std.specs.Prelude.{◌≡◌, ℕ, ◌<◌, Option, None, IfSome, List, length, slice_index, slice_index_or}

-- each comes back unchanged, or not at all
pub record ComeBack (values : List ℕ) (back : List (Option ℕ)) : Type 0 where
  pub count : length back ≡ length values
  pub each : (i : ℕ) → i < length values → IfSome (slice_index_or back i None) (λ v. v ≡ slice_index values i)
