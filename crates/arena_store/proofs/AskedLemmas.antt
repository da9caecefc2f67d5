-- What is visible of a source in calls that ask for nothing, and in calls one after another.
use Rattle.std.proofs.lemmas.Bool.Decides.{nat_tests}
use Rattle.std.proofs.Common.{ℕ, ◌+◌, arith, List, [], ◌++◌}
use Rattle.std.proofs.lemmas.Bool.{cases_lt}
use Rattle.arena_rules.proofs.CauseLemmas.{counted_none, counted_on, tells_none, tells_more}
use Rattle.arena_store.specs.Source.{Source, IsAsked}

-- nothing was asked for
pub asked_none : (source : Source) → IsAsked source source 0 []
asked_none source = grind (arith, nat_tests, counted_none, tells_none)

-- one call after another
pub asked_more : (before mid after : Source) (k j : ℕ) (first second : List (ℕ × ℕ)) → IsAsked before mid k first
    → IsAsked mid after j second
    → IsAsked before after (k + j) (first ++ second)
asked_more before mid after k j first second one two = grind (arith, nat_tests, counted_on, cases_lt, tells_more)
