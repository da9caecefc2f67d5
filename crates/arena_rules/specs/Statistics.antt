-- What an arena counts: the blocks that were placed, and those that moved or were allocated again in a resize.
use Rattle.std.specs.Prelude.{ℕ, ◌-◌, ◌^◌, nat_lt, if◌then◌else◌}
use Rattle.arena_rules.specs.Moves.{Resizing}
use Rattle.arena_rules.specs.Moves.Resizing.{Stays, Moves, Anew, Refused}
use Rattle.arena_rules.specs.Causes.{counted}

pub record Statistics : Type 0 where
  pub allocations : ℕ
  pub reallocations : ℕ

-- an arena that has counted nothing
abbrev pub uncounted : Statistics
uncounted = record { allocations = 0; reallocations = 0 }

-- a block was placed
abbrev pub one_allocation : Statistics → Statistics
one_allocation s = record s { allocations = counted s.allocations 1 }

-- a block grew or shrank in place
abbrev pub one_reallocation : Statistics → Statistics
one_reallocation s = record s { reallocations = counted s.reallocations 1 }

-- A block was allocated again in place of another: one allocation more, which is taken back unless the count has then
-- reached its maximum, and one reallocation more.
abbrev pub one_move : Statistics → Statistics
one_move s = record {
  allocations = if nat_lt (counted s.allocations 1) (2 ^ 64 - 1) then s.allocations else counted s.allocations 1;
  reallocations = counted s.reallocations 1;
}

-- a block was resized; nothing is counted if it stays or the call is refused
abbrev pub resized : Resizing → Statistics → Statistics
resized Stays s = s
resized (Moves q) s = one_reallocation s
resized Anew s = one_move s
resized Refused s = s
