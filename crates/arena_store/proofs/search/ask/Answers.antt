use Rattle.std.proofs.lemmas.Bool.Decides.{nat_tests}
use Rattle.std.proofs.Common.{◌≡◌, ◌/◌, ap, sym, ◌∙◌, arith, ◌∷◌, length, drop}
use Rattle.std.proofs.lemmas.List.{length-replicate}
use Rattle.arena_rules.proofs.SearchLemmas.{entries_pass, entries_next, entries_end, length-entries}
use Rattle.arena_store.proofs.Asking.{asking_first, asking_at, asking_over, asking_granted, asking_refused}
use Rattle.arena_rules.specs.Search.{entries}
use Rattle.arena_store.proofs.search.ask.Given.{Over}
use Rattle.arena_store.proofs.search.ask.Goals as goal
use Rattle.arena_store.proofs.search.ask.Goals.{in-Some+in_default-request_region, in_default}

pub loop-tried-init : goal.loop-tried-init
loop-tried-init g c = asking_first _ _ _

-- ---- A chunk is granted

size : (g : Over) (c : goal.In-Some-request_region g) → length c.in-Some-request_region.chunk.items ≡ c.in-Some.size
size g c = ap length c.in-Some-request_region.ensures.zeros ∙ length-replicate c.in-Some.size 0

left : (g : Over) (c : goal.In-Some-request_region g)
    → drop c.loop-tried.refused (entries c.args.base c.args.layout.size c.args.layout.align c.args.first c.args.least)
    ≡ (c.args.base, c.in-Some.size) ∷ entries c.args.base c.args.layout.size c.args.layout.align (c.loop-tried.tried / 2) c.args.least
left g c = grind (arith, nat_tests, entries_next)

pub returns-in-Some-request_region-clause-granted : goal.returns-in-Some-request_region-clause-granted
returns-in-Some-request_region-clause-granted g c =
    rw (size g c) (asking_at _ _ (c.args.base, c.in-Some.size) c.loop-tried.refused (left g c))

pub returns-in-Some-request_region-clause-zeros : goal.returns-in-Some-request_region-clause-zeros
returns-in-Some-request_region-clause-zeros g c = rw (size g c) c.in-Some-request_region.ensures.zeros

pub returns-in-Some-request_region-clause-asked : goal.returns-in-Some-request_region-clause-asked
returns-in-Some-request_region-clause-asked g c =
    asking_granted _ _ c.args.base c.in-Some.size c.args.layout.align c.loop-tried.refused _ _ _ (left g c) c.loop-tried.invariant.asked
    c.in-Some-request_region.ensures.granted (rw (← c.max-align.ensures) c.in-Some-request_region.ensures.told)

-- ---- The next size is tried

pub overflow_add-refused : goal.overflow_add-refused
overflow_add-refused g c = grind (arith, nat_tests, length-entries)

pub loop-tried-preserved : goal.loop-tried-preserved
loop-tried-preserved g c = elim c.match-possible_size.branch [
  | in-Some+in_default-request_region w ↦
      let next = entries_next c.args.base c.args.layout.size c.args.layout.align c.loop-tried.tried c.args.least
      (c.args.base, w.in-Some.size) (omega arith) c.requires c.loop-tried-test.true (sym w.in-Some.ensures.value) in
      rw (w.refused-is, w.chunks-is)
      (asking_refused _ _ c.args.base w.in-Some.size c.args.layout.align c.loop-tried.refused _ _ _ (rw next at c.loop-tried.invariant)
      (record {
        refusals = w.in_default-request_region.ensures.refused;
        bounded = λ some. w.in_default-request_region.ensures.bounded;
        requests = rw (← c.max-align.ensures) w.in_default-request_region.ensures.told;
      }))
  | in_default w ↦
      let pass = entries_pass c.args.base c.args.layout.size c.args.layout.align c.loop-tried.tried c.args.least
      (omega arith) c.requires c.loop-tried-test.true (sym w.in_default.ensures.value) in
      rw (w.refused-is, w.chunks-is) (rw pass at c.loop-tried.invariant)
]

-- ---- All were refused

pub returns-clause-granted : goal.returns-clause-granted
returns-clause-granted g c =
    let none = entries_end c.args.base c.args.layout.size c.args.layout.align c.loop-tried.tried c.args.least c.loop-tried-test.false in
    (asking_over _ _ _ _ _ (rw none at c.loop-tried.invariant)).0

pub returns-clause-asked : goal.returns-clause-asked
returns-clause-asked g c = grind (arith, nat_tests, entries_end, asking_over)
