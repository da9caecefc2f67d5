-- Over a fixed pool, a script's text and the number of bytes of the pool's regions determine its outcome.
use Rattle.std.specs.Prelude.{◌≡◌, ◌≢◌, ℕ, List}
use Rattle.arena_chunks.specs.Source.{Source}
use Rattle.arena_pool.specs.declared.kind.PoolKind.TheVariants.{FixedSize}
use Rattle.script_rules.specs.declared.commands.Command.{Command}
use Rattle.script_rules.specs.declared.commands.Ended.TheVariants as ended
use Rattle.script_rules.specs.declared.outcome.Outcome.{Outcome}
use Rattle.arena_workers.specs.declared.served.Served.{Served}
use Rattle.script_workers.specs.Serving.{IsServedAlone}

-- Over fixed pools whose regions have this many bytes, a script has one outcome, unless memory runs out: whatever ran before
-- it or at the same time, by whichever job, and on however many workers.
abbrev pub HasOneOutcome : {C D : Type 0} → (C → Source) → (D → Source) → (worked also : List Command → Outcome → Type 0) → Type 0
HasOneOutcome {C} {D} source other worked also = (bytes : ℕ) (script : List Command) (one : Served Outcome C) (two : Served Outcome D)
    → IsServedAlone source (FixedSize bytes) worked script one → IsServedAlone other (FixedSize bytes) also script two
    → one.outcome.ended ≢ ended.OutOfMemory → two.outcome.ended ≢ ended.OutOfMemory → one.outcome ≡ two.outcome
