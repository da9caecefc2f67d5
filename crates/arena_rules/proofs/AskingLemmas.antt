-- What calls ask for adds up over calls; and when the source refused.
use Rattle.arena_rules.proofs.CauseLemmas.{tells_none}
use Rattle.std.proofs.lemmas.Bool.Decides.{nat_tests}
use Rattle.std.proofs.Common.{◌≡◌, ℕ, ◌+◌, ◌^◌, ◌<◌, ◌≤◌, arith, List, [], ◌++◌, length, true, length-append, append_assoc}
use Rattle.std.specs.List.{AllByRecursion}
use Rattle.arena_rules.specs.State.{State, top_of}
use Rattle.arena_rules.specs.Source.{Source, IsAsked}
use Rattle.arena_rules.specs.Asking.{IsRequestWithin, most_asked, AddsWithin, HasGrown, AsksWithin, IsRefusedBySource, IsStarved}
use Rattle.arena_rules.proofs.ListLemmas.{all_append, all_weaker}
use Rattle.arena_rules.proofs.GrownLemmas.{grown_not, grown_then}

-- ---- What calls ask for

-- a call that made these requests
pub asks_by : (bytes k : ℕ) (made : List (ℕ × ℕ)) (old new : State) (before after : Source) → IsAsked before after k made
    → AllByRecursion (IsRequestWithin (most_asked bytes)) made → HasGrown old new → AsksWithin bytes old new before after
asks_by bytes k made old new before after asked within grown = grind (arith, nat_tests)

-- no call
pub asks_nothing : (bytes : ℕ) (state : State) (source : Source) → AsksWithin bytes state state source source
asks_nothing bytes state source = asks_by bytes 0 [] state state source source (grind (arith, tells_none)) tt (grown_not state)

-- within more bytes
pub asks_more : (few many : ℕ) (old new : State) (before after : Source) → few ≤ many → AsksWithin few old new before after
    → AsksWithin many old new before after
asks_more few many old new before after le asks =
    grind (arith, nat_tests, all_weaker (IsRequestWithin (most_asked few)) (IsRequestWithin (most_asked many)))

-- what was added and then added again was added
adds_then : (most : ℕ) (some mid all : List (ℕ × ℕ)) → AddsWithin most some mid → AddsWithin most mid all → AddsWithin most some all
adds_then most some mid all a b =
    record { added = a.added ++ b.added; all = grind (arith, append_assoc); within = grind (arith, all_append) }

-- one call after another
pub asks_then : (bytes : ℕ) (old mid new : State) (before between after : Source) → AsksWithin bytes old mid before between
    → AsksWithin bytes mid new between after → AsksWithin bytes old new before after
asks_then bytes old mid new before between after one two = grind (arith, nat_tests, grown_then old mid new, adds_then (most_asked bytes))

-- ---- The source refused

-- k requests were refused, at least one, and some were made
pub refused_by : (k : ℕ) (made : List (ℕ × ℕ)) (before after : Source) → IsAsked before after k made → 0 < k → 0 < length made
    → IsRefusedBySource before after
refused_by k made before after asked some more = grind (arith, nat_tests, length-append {A = ℕ × ℕ})

-- after other calls
pub refused_after : (bytes : ℕ) (old mid : State) (before between after : Source) → AsksWithin bytes old mid before between
    → IsRefusedBySource between after → IsRefusedBySource before after
refused_after bytes old mid before between after asks refused = grind (arith, nat_tests, length-append {A = ℕ × ℕ})

-- ---- Calls that were starved

-- A call is starved if the source refused whenever the newest data end was at or below `far`.
pub starved_by : (far : ℕ) (old new : State) (before after : Source) → old.is_growing ≡ true
    → (top_of old.chunks ≤ far → IsRefusedBySource before after) → IsStarved far old new before after
starved_by far old new before after growing refused = grind (arith, nat_tests)

-- for a lower limit
pub starved_nearer : (far near : ℕ) (old new : State) (before after : Source) → near ≤ far → IsStarved far old new before after
    → IsStarved near old new before after
starved_nearer far near old new before after le starved = grind (arith, nat_tests)

-- After other calls the limit is lower by 2 ^ 61, unless the arena has at least 2 ^ 60 bytes.
pub starved_after : (bytes far : ℕ) (old mid new : State) (before between after : Source) → old.is_growing ≡ true
    → AsksWithin bytes old mid before between → HasGrown mid new → IsStarved (far + 2 ^ 61) mid new between after
    → IsStarved far old new before after
starved_after bytes far old mid new before between after growing asks grown starved = grind (arith, nat_tests, refused_after)

pub ruleset asked_laws = (asks_nothing, asks_more, asks_then)

pub ruleset starved_laws = (starved_by, starved_nearer, refused_after, starved_after)
