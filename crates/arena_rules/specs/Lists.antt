-- Operations on lists.
use Rattle.std.specs.Prelude.{ℕ, ◌+◌, List, ◌++◌, length, take, drop}

-- a list with new items in place of those from this index on
abbrev pub splice : List ℕ → ℕ → List ℕ → List ℕ
splice old at new = take at old ++ new ++ drop (at + length new) old
