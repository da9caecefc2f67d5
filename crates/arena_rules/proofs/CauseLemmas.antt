-- Counts of refusals and lists of requests add up over calls.
use Rattle.std.proofs.Common.{◌≡◌, ℕ, ◌+◌, arith, Option, List, [], ◌++◌, append_assoc, append-nil}
use Rattle.arena_rules.specs.Causes.{counted, TellsRequests}

-- A count that rises by 0 is unchanged.
pub counted_none : (n : ℕ) → counted n 0 ≡ n
counted_none n = omega arith

-- Of three counts, each the one before and what it rose by, the last is the first and both rises.
pub counted_on : (a b c k j : ℕ) → b ≡ counted a k → c ≡ counted b j → c ≡ counted a (k + j)
counted_on a b c k j first second = omega arith

pub tells_none : (o : Option (List (ℕ × ℕ))) → TellsRequests o o []
tells_none o = grind (arith, append-nil)

pub tells_more : (a b c : Option (List (ℕ × ℕ))) (xs ys : List (ℕ × ℕ)) → TellsRequests a b xs → TellsRequests b c ys
    → TellsRequests a c (xs ++ ys)
tells_more a b c xs ys first second = grind (arith, append_assoc)
