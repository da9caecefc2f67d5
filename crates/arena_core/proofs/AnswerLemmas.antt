-- Results of calls that place a block.
use Rattle.std.proofs.lemmas.Bool.Decides.{nat_tests}
use Rattle.std.proofs.Common.{arith, ℕ, Result, Err}
use Rattle.std.specs.Prelude.{OnErr}
use Rattle.arena_core.specs.Answers.{Answer, answer_of, OnCounted}
use Rattle.arena_store.specs.declared.block.ArenaErr.{ArenaErr}
use Rattle.arena_store.specs.declared.block.ArenaErr.TheVariants.{AllocErr, OutOfMemory}

-- An error has the number of refusals, also for a call that doesn't return the number on success.
pub uncounted_err : (P : ℕ → Answer → Type 0) (e : ArenaErr) → OnCounted (Err e) P → (k : ℕ) × P k (answer_of (Err e))
uncounted_err P (AllocErr k) holds = (k, holds)
uncounted_err P OutOfMemory holds = (0, holds)

-- A fact that holds, holds on an error too.
pub on_err : {X E P : Type 0} → (r : Result X E) → P → OnErr r P
on_err r holds = grind (arith, nat_tests)
