-- What a refusal of the second of two calls implies for both.
use Rattle.std.proofs.Common.{◌≡◌, ℕ, ◌≤◌, arith}
use Rattle.arena_rules.specs.State.{allocated_bytes}
use Rattle.arena_chunks.specs.Source.{View}
use Rattle.arena_chunks.specs.Asking.{IsFull}

-- An arena that is full for some bytes is full for more, and so is an arena of the same kind that has as many bytes.
pub full_within : (few bytes : ℕ) (old mid : View) → few ≤ bytes → mid.memory.state.is_growing ≡ old.memory.state.is_growing
    → allocated_bytes mid.memory.state ≡ allocated_bytes old.memory.state → IsFull few mid → IsFull bytes old
full_within few bytes old mid less kind same full = grind (arith, full)
