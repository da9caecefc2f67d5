-- Lists with a part replaced.
use Rattle.std.specs.Prelude.{ℕ, ◌+◌, List, ◌++◌, take, drop, length}

-- a list with its part from an index on overwritten by another list
abbrev pub over : {T : Type 0} → List T → ℕ → List T → List T
over xs at ys = take at xs ++ ys ++ drop (at + length ys) xs
