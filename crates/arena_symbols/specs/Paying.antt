-- What calls of interners and scoped tables pay.
use Rattle.std.specs.Prelude.{◌≡◌, ℕ, ◌^◌, ◌≤◌, Result, Err, OnErr}
use Rattle.arena_chunks.specs.Source.{View}
use Rattle.arena_chunks.specs.Asking.{IsCounted}
use Rattle.arena_items.specs.Costs.{Costs}
use Rattle.arena_items.specs.declared.room.AllocError.{AllocError}
use Rattle.arena_items.specs.declared.room.AllocError.TheVariants.{AllocErr}

-- A call costs at most this many bytes, given its credits before and after. A refusal doesn't raise the credit, and the
-- requests that it reports were refused.
pub record Pays {X : Type 0} (far bytes before after : ℕ) (old new : View) (result : Result X AllocError) : Type 0 where
  pub costs : Costs far bytes before after old new result
  pub refused : OnErr result (after ≤ before)
  pub told : (k : ℕ) → result ≡ Err (AllocErr k) → IsCounted k old new

-- a data end of the newest chunk up to which a call is refused by its source alone
abbrev pub far_up : ℕ
far_up = 2 ^ 63
