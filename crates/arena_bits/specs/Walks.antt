-- Walks over the numbers of a set.
use Rattle.std.specs.Prelude.{◌≡◌, ℕ, ◌+◌, ◌/◌, ◌%◌, ◌<◌, ◌≤◌, List, length, Option, ◌==◌}
use Rattle.std.specs.Option.{MatchOption}
use Rattle.std.specs.Iterator.{YieldsFirst}
use Rattle.std.specs.Int.{bit_at, from_le_bytes, w64}
use Rattle.arena_items.specs.Values.{elements}
use Rattle.arena_bits.specs.Bits.{bits_of, members}
use Rattle.arena_bits.specs.declared.ones.Scan.{Scan}

-- What is left of a walk: the numbers to come, the place after the last one given, and the set's capacity, where it ends.
pub record Walk : Type 0 where
  pub left : List ℕ
  pub front : ℕ
  pub capacity : ℕ

-- After a number the walk is at the next place, and after none at the end.
pub record Moves (old : Walk) (given : Option ℕ) (new : Walk) : Type 0 where
  pub front : MatchOption given (new.front ≡ old.capacity) (λ n. new.front ≡ n + 1)
  pub capacity : new.capacity ≡ old.capacity

-- one call of `next`
abbrev pub Goes : Walk → Option ℕ → Walk → Type 0
Goes old given new = YieldsFirst (λ (walk : Walk). walk.left) old given new × Moves old given new

-- the words of some bytes
abbrev pub words_in : List ℕ → List ℕ
words_in bytes = elements 8 (from_le_bytes w64) (length bytes / 8) bytes

-- All numbers below `front` were given or skipped. In the word at `base` their bits were cleared; its other bits are as
-- they were.
pub record IsScan (words : List ℕ) (capacity : ℕ) (s : Scan) : Type 0 where
  pub aligned : s.base % 64 ≡ 0
  pub order : s.base ≤ s.front
  pub within : s.front ≤ s.base + 64
  pub bounded : s.front ≤ capacity
  pub passed : (j : ℕ) → s.base + j < s.front → bit_at s.rest j ≡ 0
  pub rest : (j : ℕ) → j < 64 → s.front ≤ s.base + j → (bit_at s.rest j == 1) ≡ bits_of words (s.base + j)

-- what is left of a scan of some bytes
abbrev pub walk_of : List ℕ → ℕ → Scan → Walk
walk_of bytes capacity s = record { left = members (bits_of (words_in bytes)) s.front capacity; front = s.front; capacity = capacity }
