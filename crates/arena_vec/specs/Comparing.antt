-- Lists that are compared.
use Rattle.std.specs.Prelude.{◌≡◌, ℕ, Bool, List, length, Some, slice_get, IsTrue}

-- of the same length, and alike at each index
pub record AreAlike {T : Type 0} (alike : T → T → Bool) (xs ys : List T) : Type 0 where
  pub as_long : length xs ≡ length ys
  pub values : (i : ℕ) (x y : T) → slice_get xs i ≡ Some x → slice_get ys i ≡ Some y → IsTrue (alike x y)
