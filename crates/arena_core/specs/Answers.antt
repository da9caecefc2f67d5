-- What a call that places a block returns, whatever the type of its result.
use Rattle.std.specs.Prelude.{ℕ, Result, Ok, Err}
use Rattle.arena_rules.specs.State.{State, cursor_of}
use Rattle.arena_store.specs.declared.block.Block.{Block}
use Rattle.arena_store.specs.declared.block.ArenaErr.{ArenaErr}
use Rattle.arena_store.specs.declared.block.ArenaErr.TheVariants.{AllocErr, OutOfMemory}
use Rattle.arena_core.specs.declared.alloc.SlowAnswer.{SlowAnswer}
use Rattle.arena_core.specs.declared.alloc.SlowAnswer.TheVariants.{AtCursor, NoChunk, NoMemory}

-- A block; none, after this many requests were refused; or none, because memory other than the source's ran out.
pub data Answer : Type 0 where
  Placed : Block → Answer
  Refused : ℕ → Answer
  Exhausted : Answer

-- a result from which the block is taken by a function
abbrev pub answer_by : {X : Type 0} → (X → Block) → Result X ArenaErr → Answer
answer_by block (Ok x) = Placed (block x)
answer_by block (Err (AllocErr refused)) = Refused refused
answer_by block (Err OutOfMemory) = Exhausted

abbrev pub answer_of : Result Block ArenaErr → Answer
answer_of result = answer_by (λ b. b) result

-- A property of a block that was placed, one of a refusal after k requests, and one for a lack of memory.
abbrev pub OnAnswer : Answer → (Block → Type 0) → (ℕ → Type 0) → Type 0 → Type 0
OnAnswer (Placed b) placed refused exhausted = placed b
OnAnswer (Refused k) placed refused exhausted = refused k
OnAnswer Exhausted placed refused exhausted = exhausted

-- a property of the number of refusals and of the answer, where the result has the number with the block
abbrev pub OnCounted : Result (Block × ℕ) ArenaErr → (ℕ → Answer → Type 0) → Type 0
OnCounted (Ok placed) P = P placed.1 (Placed placed.0)
OnCounted (Err (AllocErr refused)) P = P refused (Refused refused)
OnCounted (Err OutOfMemory) P = P 0 Exhausted

-- the result of a slow path as one with the block: it is of this layout, at the state's cursor
abbrev pub at_cursor : State → ℕ → ℕ → SlowAnswer → Result (Block × ℕ) ArenaErr
at_cursor state size align (AtCursor refused) =
    Ok (record { generation = state.generation; addr = cursor_of state.chunks; size = size; align = align }, refused)
at_cursor state size align (NoChunk refused) = Err (AllocErr refused)
at_cursor state size align NoMemory = Err OutOfMemory
