use Rattle.std.proofs.lemmas.Bool.Decides.{nat_tests}
use Rattle.std.proofs.Common.{◌≡◌, ◌+◌, ◌-◌, ◌/◌, arith, ap, sym, ◌∙◌}
use Rattle.std.specs.Prelude.{slice_index}
use Rattle.arena_store.proofs.BelowLemmas.{search_first, search_above, search_below, search_done}
use Rattle.arena_store.proofs.below.search.Goals as goal

pub loop-low-init : goal.loop-low-init
loop-low-init g c = (omega arith, search_first _ _ _ _ c.len-high.ensures (omega arith), λ some. absurd (omega arith))

pub loop-low-preserved-then-base-addr : goal.loop-low-preserved-then-base-addr
loop-low-preserved-then-base-addr g c =
    let here = c.loop-low.invariant.0 in
    let next = c.base_at-base.ensures.step in
    let same : c.loop-low.low + (c.loop-low.high - c.loop-low.low) / 2 + 1 - 1 ≡ c.loop-low.low + (c.loop-low.high - c.loop-low.low) / 2 =
    omega arith in (
      omega (arith, next, here),
      search_above _ _ _ _ (c.loop-low.steps - c.args.steps.now) _ c.loop-low.invariant.1 c.loop-low-test.true
          (omega (arith, next, here)) c.base_at-base.ensures.rises
          (omega (arith, c.base_at-base.ensures.value, c.if-base-addr.true)),
      λ some. c.base_at-base.ensures.value ∙ ap (slice_index c.args.bases.now.items) (sym same),
    )

pub loop-low-preserved : goal.loop-low-preserved
loop-low-preserved g c =
    let here = c.loop-low.invariant.0 in
    let next = c.base_at-base.ensures.step in (
      omega (arith, next, here),
      search_below _ _ _ _ (c.loop-low.steps - c.args.steps.now) _ c.loop-low.invariant.1 c.loop-low-test.true
          (omega (arith, next, here)) c.base_at-base.ensures.rises
          (omega (arith, c.base_at-base.ensures.value, c.if-base-addr.false)),
      c.loop-low.invariant.2,
    )

pub returns : goal.returns
returns g c = grind (arith, nat_tests, search_done)
