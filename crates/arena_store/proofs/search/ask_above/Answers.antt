use Rattle.std.proofs.lemmas.Bool.Decides.{nat_tests}
use Rattle.std.proofs.Common.{◌≡◌, ℕ, ◌+◌, refl, arith, []}
use Rattle.std.specs.Option.{option_map_or}
use Rattle.arena_rules.specs.Search.{asked_above, entries, requests}
use Rattle.arena_rules.proofs.RoundingLemmas.{max_power, layout_power, pow_power}
use Rattle.arena_rules.proofs.SearchLemmas.{asked_above_is, asked_above-past_end}
use Rattle.arena_store.proofs.AskedLemmas.{asked_none}
use Rattle.arena_store.proofs.search.ask_above.Given.{Over}
use Rattle.arena_store.proofs.search.ask_above.Goals as goal

pub next_base-requires-clause-power : goal.next_base-requires-clause-power
next_base-requires-clause-power g c = rw c.max.ensures
    (max_power c.args.layout.align 16 (layout_power _ _ c.args.layout.valid) (pow_power 4 (omega arith)))

all : (g : Over) (c : goal.After-ask g) → asked_above (option_map_or {T = ℕ} {U = ℕ} (λ e. e + 48) c.args.end 4096) c.args.newest_size
    c.args.layout.size c.args.layout.align
    ≡ entries c.in-Some.base c.args.layout.size c.args.layout.align c.max-in-Some.result c.max-least.result
all g c = grind (arith, nat_tests, asked_above_is)

pub returns-in-Some-clause-granted : goal.returns-in-Some-clause-granted
returns-in-Some-clause-granted g c = rw (all g c) c.ask.ensures.granted

pub returns-in-Some-clause-asked : goal.returns-in-Some-clause-asked
returns-in-Some-clause-asked g c = rw (all g c) c.ask.ensures.asked

nothing : (g : Over) (c : goal.In-None g)
    → asked_above (option_map_or {T = ℕ} {U = ℕ} (λ e. e + 48) c.args.end 4096) c.args.newest_size c.args.layout.size c.args.layout.align
    ≡ []
nothing g c = grind (arith, nat_tests, asked_above-past_end)

pub returns-in-None-clause-granted : goal.returns-in-None-clause-granted
returns-in-None-clause-granted g c = rw (nothing g c) refl

pub returns-in-None-clause-asked : goal.returns-in-None-clause-asked
unfolding requests
returns-in-None-clause-asked g c = rw (nothing g c) (asked_none (g.C.ChunkSource.source c.args.chunks.now))
