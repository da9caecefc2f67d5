-- What a layer's call requests from the source, and why it failed.
use Rattle.std.specs.Prelude.{◌≡◌, ℕ, ◌+◌, true, false}
use Rattle.arena_rules.specs.State.{used_bytes}
use Rattle.arena_chunks.specs.Source.{View}
use Rattle.arena_chunks.specs.Asking.{AsksWithin, IsStarved, IsFull}
use Rattle.arena_chunks.specs.Answers.{Answer}
use Rattle.arena_chunks.specs.Answers.Answer.{Refused}

-- The call requests no more than `bytes` bytes in use need. If there is no place, an arena that grows was starved,
-- and one that doesn't has fewer than `bytes` bytes.
pub record Accounts (far bytes : ℕ) (old new : View) (answer : Answer) : Type 0 where
  pub asks : AsksWithin bytes old new
  pub starved : old.memory.state.is_growing ≡ true → (k : ℕ) → answer ≡ Refused k → IsStarved far old new
  pub full : old.memory.state.is_growing ≡ false → (k : ℕ) → answer ≡ Refused k → IsFull bytes old

-- the bytes in use, and two blocks of these sizes, each with its padding
abbrev pub needed : View → ℕ → ℕ → ℕ
needed a first second = used_bytes a.memory.state + (first + 15) + (second + 15)
