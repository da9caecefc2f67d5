use Rattle.std.proofs.lemmas.Bool.Decides.{nat_tests}
use Rattle.std.proofs.Common.{◌+◌, ◌<◌, arith, sym, ◌∙◌, length, lt-ltb, refl}
use Rattle.call_rules.specs.Machine.{step}
use Rattle.call_rules.specs.Requests.{placed_anew}
use Rattle.arena_runs.proofs.Serving.{readable_at, asks_none, serves_still, absent_at, found_at, serves_write}
use Rattle.arena_runs.proofs.serve.serve_write.Goals as goal
use Rattle.arena_runs.proofs.serve.serve_write.Goals.{then-len-place-via-then-len-place, then-len-place-via-else-len-place+then-at-place}

pub returns-in_default-clause-serves : goal.returns-in_default-clause-serves
unfolding step placed_anew
returns-in_default-clause-serves g c = λ source.
    serves_still _ _ _ _ _ _ c.requires (λ marks bytes held.
    absent_at c.args.arena.now c.args.names.now marks bytes c.args.name _ (sym c.get.ensures ∙ c.in_default.is))
    (asks_none _ _ _ _ _ _ refl refl (λ marks bytes. refl) (λ marks bytes. refl))

pub returns-then-len-place-clause-serves : goal.returns-then-len-place-clause-serves
unfolding step placed_anew
returns-then-len-place-clause-serves g c = λ source.
    let past : c.in-Some.place.size < c.args.at + length c.args.bytes.now = elim c.then-len-place.branch [
      | then-len-place-via-then-len-place w ↦ omega arith
      | then-len-place-via-else-len-place+then-at-place w ↦ omega arith
    ] in
    serves_still _ _ _ _ _ _ c.requires (λ marks bytes held.
    found_at c.args.arena.now c.args.names.now marks bytes c.args.name 0 c.in-Some.place _ held (sym c.get.ensures ∙ c.in-Some.is)
    ∙ rw (lt-ltb _ _ past) refl) (asks_none _ _ _ _ _ _ refl refl (λ marks bytes. refl) (λ marks bytes. refl))

pub write-requires : goal.write-requires
write-requires g c = grind (arith, nat_tests, readable_at)

pub returns-clause-serves : goal.returns-clause-serves
returns-clause-serves g c = λ source.
    serves_write c.args.arena.now c.write.new.self c.args.names.now c.args.name c.args.at c.args.bytes.now c.in-Some.place source c.requires
    (sym c.get.ensures ∙ c.in-Some.is)
    (omega arith) (rw c.block_at.ensures at c.write.ensures)
