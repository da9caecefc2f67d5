use Rattle.std.proofs.lemmas.Bool.Decides.{nat_tests}
use Rattle.std.proofs.Common.{arith, sym, ◌∙◌, refl}
use Rattle.call_rules.specs.Machine.{step}
use Rattle.call_rules.specs.Requests.{placed_anew}
use Rattle.name_map.proofs.EntryLemmas.{remove_absent}
use Rattle.arena_runs.proofs.Serving.{readable_at, asks_none, serves_still, absent_at, serves_dealloc}
use Rattle.arena_runs.proofs.serve.serve_dealloc.Goals as goal

pub returns-in_default-clause-serves : goal.returns-in_default-clause-serves
unfolding step placed_anew
returns-in_default-clause-serves g c = λ source.
    let none = sym c.remove.ensures.value ∙ c.in_default.is in
    rw (c.remove.ensures.rest, remove_absent c.args.names.now c.args.name none)
    (serves_still _ _ _ _ _ _ c.requires (λ marks bytes held. absent_at c.args.arena.now c.args.names.now marks bytes c.args.name _ none)
    (asks_none _ _ _ _ _ _ refl refl (λ marks bytes. refl) (λ marks bytes. refl)))

pub dealloc-requires : goal.dealloc-requires
dealloc-requires g c = grind (arith, nat_tests, readable_at)

pub returns-clause-serves : goal.returns-clause-serves
returns-clause-serves g c = λ source.
    let found = sym c.remove.ensures.value ∙ c.in-Some.is in
    rw c.remove.ensures.rest
    (serves_dealloc c.args.arena.now c.dealloc.new.self c.args.names.now c.args.name c.in-Some.place source c.requires found
    (rw c.block_at.ensures at c.dealloc.ensures))
