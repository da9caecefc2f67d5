use Rattle.std.proofs.lemmas.Bool.Decides.{nat_tests}
use Rattle.std.proofs.Common.{arith, sym, ◌∙◌, refl}
use Rattle.std.proofs.lemmas.Result.{on_ok_weaker}
use Rattle.call_rules.specs.Machine.{step}
use Rattle.call_rules.specs.Requests.{placed_anew}
use Rattle.call_rules.specs.declared.calls.Reply.TheVariants.{Bytes, NoSuchName}
use Rattle.call_rules.specs.declared.calls.Call.TheVariants.{Read}
use Rattle.arena_store.specs.Source.{view}
use Rattle.arena_runs.specs.Serving.{Serves}
use Rattle.arena_runs.proofs.Serving.{readable_at, asks_none, serves_still, absent_at, found_at}
use Rattle.arena_runs.proofs.serve.serve_read.Goals as goal

pub returns-in_default-clause-serves : goal.returns-in_default-clause-serves
unfolding step placed_anew
returns-in_default-clause-serves g c = λ source. (
  NoSuchName,
  serves_still _ _ _ _ _ _ c.requires.holds
      (λ marks bytes held. absent_at c.args.arena.now c.args.names.now marks bytes c.args.name _ (sym c.get.ensures ∙ c.in_default.is))
      (asks_none _ _ _ _ _ _ refl refl (λ marks bytes. refl) (λ marks bytes. refl)),
  c.take.ensures.taken,
)

pub read-requires : goal.read-requires
read-requires g c = grind (arith, nat_tests, readable_at)

pub returns-clause-serves : goal.returns-clause-serves
unfolding step placed_anew
returns-clause-serves g c = λ source.
    let serves : Serves (Read c.args.name) (Bytes c.read.result.now) (view c.args.arena.now source)
    (view c.args.arena.now source) c.args.names.now c.args.names.now =
    serves_still _ _ _ _ _ _ c.requires.holds (λ marks bytes held.
    found_at c.args.arena.now c.args.names.now marks bytes c.args.name 0 c.in-Some.place _ held (sym c.get.ensures ∙ c.in-Some.is)
    ∙ rw (c.read.ensures, c.block_at.ensures) refl) (asks_none _ _ _ _ _ _ refl refl (λ marks bytes. refl) (λ marks bytes. refl)) in
    on_ok_weaker c.take_bytes.result (λ taken. (Bytes c.read.result.now, serves, taken)) c.take_bytes.ensures.taken
