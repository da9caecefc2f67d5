-- How much memory a program over calls may take.
use Rattle.std.specs.Prelude.{ℕ}

-- how many bytes the arena's chunks may have together: 1 GiB
abbrev pub budget : ℕ
budget = 1073741824
