-- What calls on an arena ask its source for, and why they are refused: the rules on states and sources, for an arena
-- with its source.
use Rattle.std.specs.Prelude.{ℕ}
use Rattle.arena_rules.specs.Asking.{HasGrown as HasStateGrown, AsksWithin as SourceIsAskedWithin, IsRefusedBySource as HasSourceRefused, IsCounted as IsSourceCounted, IsStarved as IsStateStarved, IsFull as IsStateFull}
use Rattle.arena_store.specs.Source.{View}

abbrev pub HasGrown : View → View → Type 0
HasGrown old new = HasStateGrown old.memory.state new.memory.state

abbrev pub AsksWithin : ℕ → View → View → Type 0
AsksWithin bytes old new = SourceIsAskedWithin bytes old.memory.state new.memory.state old.source new.source

abbrev pub IsRefusedBySource : View → View → Type 0
IsRefusedBySource old new = HasSourceRefused old.source new.source

abbrev pub IsCounted : ℕ → View → View → Type 0
IsCounted told old new = IsSourceCounted told old.source new.source

abbrev pub IsStarved : ℕ → View → View → Type 0
IsStarved far old new = IsStateStarved far old.memory.state new.memory.state old.source new.source

abbrev pub IsFull : ℕ → View → Type 0
IsFull bytes old = IsStateFull bytes old.memory.state
