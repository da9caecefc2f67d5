-- A script over a fixed pool has one outcome.
use Rattle.std.proofs.Common.{◌≢◌, ℕ, ◌-◌, inl, inr, refl, List}
use Rattle.arena_chunks.specs.Source.{Source}
use Rattle.arena_pool.specs.declared.kind.PoolKind.{PoolKind}
use Rattle.arena_pool.specs.declared.kind.PoolKind.TheVariants.{FixedSize}
use Rattle.script_rules.specs.declared.commands.Command.{Command}
use Rattle.script_rules.specs.declared.commands.Ended.TheVariants as ended
use Rattle.script_rules.specs.declared.outcome.Outcome.{Outcome}
use Rattle.arena_script.specs.OneOutcome.{IsFixed}
use Rattle.arena_script.proofs.FixedLemmas.{fixed_way}
use Rattle.arena_workers.specs.declared.served.Served.{Served}
use Rattle.script_workers.specs.Serving.{IsServedAlone, IsRunAlone}
use Rattle.script_workers.specs.OneOutcome.{HasOneOutcome}

ran_alone : {C : Type 0} (source : C → Source) (kind : PoolKind) (worked : List Command → Outcome → Type 0) (script : List Command)
    (served : Served Outcome C) → IsServedAlone source kind worked script served → served.outcome.ended ≢ ended.OutOfMemory
    → IsRunAlone source kind script served
ran_alone source kind worked script served is other = elim is.ran [ inl ran ↦ ran | inr none ↦ absurd (other none.ended) ]

fixed : {C : Type 0} (source : C → Source) (bytes : ℕ) (script : List Command) (served : Served Outcome C)
    (ran : IsRunAlone source (FixedSize bytes) script served) → IsFixed (bytes - 48) ran.old.memory.state
fixed source bytes script served ran = record { still = ran.unused.of_kind.growing; region = ran.unused.of_kind.region bytes refl }

pub one_outcome : {C D : Type 0} (source : C → Source) (other : D → Source) (worked also : List Command → Outcome → Type 0)
    → HasOneOutcome source other worked also
one_outcome source other worked also = λ bytes script one two first second first_other second_other.
    let a = ran_alone source (FixedSize bytes) worked script one first first_other in
    let b = ran_alone other (FixedSize bytes) also script two second second_other in
    (fixed_way (bytes - 48) script a.old a.new b.old b.new one.outcome two.outcome (fixed source bytes script one a)
    (fixed other bytes script two b) a.ran b.ran first_other second_other).0
