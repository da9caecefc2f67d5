-- Rings of slots, each with a mark of one byte.
use Rattle.std.specs.Prelude.{ℕ, ◌+◌, ◌*◌, ◌/◌, ◌%◌, ◌≤◌, ◌^◌, ◌==◌, min, Option, Some, None, List, [], ◌∷◌, if◌then◌else◌}
use Rattle.std.specs.Int.{IsPowerOfTwo}

-- a number of slots: a power of two from 8 to 2 ^ 33
abbrev pub IsRing : ℕ → Type 0
IsRing n = IsPowerOfTwo n × (8 ≤ n) × (n ≤ 2 ^ 33)

-- the slots by their marks and pairs: a slot is free if its mark is 0
abbrev pub marked : {X : Type 0} → List ℕ → List X → List (Option X)
marked (mark ∷ marks) (x ∷ xs) = (if mark == 0 then None else Some x) ∷ marked marks xs
marked marks xs = []

-- The home of a hash, and the mark of a pair at this distance from it: the distance plus 1, at most 15, in the high
-- half, and the hash's top four bits in the low half.
abbrev pub home_of : ℕ → ℕ → ℕ
home_of n hash = hash % n

abbrev pub mark_of : ℕ → ℕ → ℕ
mark_of hash distance = min (distance + 1) 15 * 16 + hash / 2 ^ 60 % 16
