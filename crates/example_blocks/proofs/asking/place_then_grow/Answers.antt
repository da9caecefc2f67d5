use Rattle.std.proofs.Common.{◌+◌, ◌^◌, ◌≤◌, refl, ◌∙◌, arith, Err, IsTrue}
use Rattle.std.proofs.lemmas.Result.{err_from_is_err_and}
use Rattle.arena_rules.specs.Rounding.{is_power}
use Rattle.arena_rules.proofs.RoundingLemmas.{layout_power}
use Rattle.arena_chunks.specs.Source.{View}
use Rattle.arena_chunks.specs.Answers.{answer_of}
use Rattle.arena_chunks.specs.Answers.Answer.{Placed}
use Rattle.arena_chunks.specs.BlockCalls.{growing_of}
use Rattle.example_blocks.specs.Accounts.{needed}
use Rattle.example_blocks.proofs.AccountLemmas.{full_within}
use Rattle.example_blocks.proofs.asking.place_then_grow.Goals as goal

-- ---- The first call is refused

pub returns-in_err-block-clause-accounts : goal.returns-in_err-block-clause-accounts
returns-in_err-block-clause-accounts g c =
    let small = c.args.small in
    let old : View = c.args.a.now in
    let new : View = c.alloc_layout.new.self in
    let p = err_from_is_err_and c.from_residual.result c.from_residual.ensures.1 in
    rw (p.1, p.2) (record {
      asks = c.asks.ensures.placed (needed old small.size c.args.large.size) old new small.size small.align
          (answer_of (Err c.in_err-block.field-0.0)) small.valid
          (omega arith) (omega (arith, c.known.ensures.state)) c.in_err-block.ensures;
      starved = λ growing k is. c.starved_together.ensures.by (2 ^ 63) old.memory.state new.memory.state old.source new.source growing
          (λ low. c.starved.ensures.placed old new small.size small.align k small.valid (omega arith) (omega arith) growing (rw is at c.in_err-block.ensures)
          (omega (arith, low)));
      full = λ still k is. full_within _ (needed old small.size c.args.large.size) old old
          (omega (arith, c.known.ensures.state)) refl refl
          (c.full.ensures.placed old new small.size small.align k small.valid still (rw is at c.in_err-block.ensures));
    })

-- ---- The second call

pub returns-clause-used : goal.returns-clause-used
returns-clause-used g c =
    let first = c.in_ok-block.ensures.1.outcome in
    let most = c.used_by_placing.ensures.most _ _ c.args.small.size c.args.small.align c.in_ok-block.block c.args.small.valid c.in_ok-block.ensures in
    let low : c.in_ok-block.block.align ≤ c.args.large.align = omega (arith, first.of_layout.of_align) in
    let more = c.used_by_resizing.ensures.grown _ _ c.in_ok-block.block c.in_ok-grown.grown c.args.large.size c.args.large.align c.args.large.valid
    low c.in_ok-grown.ensures in
    omega (arith, most, more, first.frame.min_align, c.known.ensures.state)

pub returns-clause-accounts : goal.returns-clause-accounts
returns-clause-accounts g c =
    let old : View = c.args.a.now in
    let mid : View = c.alloc_layout.new.self in
    let new : View = c.grow.new.self in
    let small = c.args.small in
    let large = c.args.large in
    let most = c.used_by_placing.ensures.most old mid small.size small.align c.in_ok-block.block small.valid c.in_ok-block.ensures in
    let same = c.in_ok-block.ensures.1.outcome.frame.min_align in
    let one = c.asks.ensures.placed (needed old small.size large.size) old mid small.size small.align (Placed c.in_ok-block.block) small.valid
    (omega arith) (omega (arith, c.known.ensures.state)) c.in_ok-block.ensures in
    let two = c.asks.ensures.resized (needed old small.size large.size) (growing_of mid.memory c.in_ok-block.block large.size large.align) mid new
    c.in_ok-block.block large.size large.align (Placed c.in_ok-grown.grown) large.valid (omega arith)
    (omega (arith, most, same, c.known.ensures.state))
    c.in_ok-grown.ensures in
    record {
      asks = c.asked_together.ensures.then (needed old small.size large.size) old.memory.state mid.memory.state new.memory.state
          old.source mid.source new.source one two;
      starved = λ growing k is. absurd (cc);
      full = λ still k is. absurd (cc);
    }

pub returns-in_err-grown-clause-accounts : goal.returns-in_err-grown-clause-accounts
returns-in_err-grown-clause-accounts g c =
    let old : View = c.args.a.now in
    let mid : View = c.alloc_layout.new.self in
    let new : View = c.grow.new.self in
    let small = c.args.small in
    let large = c.args.large in
    let block = c.in_ok-block.block in
    let first = c.in_ok-block.ensures.1.outcome in
    let most = c.used_by_placing.ensures.most old mid small.size small.align block small.valid c.in_ok-block.ensures in
    let one = c.asks.ensures.placed (needed old small.size large.size) old mid small.size small.align (Placed block) small.valid
    (omega arith) (omega (arith, c.known.ensures.state)) c.in_ok-block.ensures in
    let two = c.asks.ensures.resized (needed old small.size large.size) (growing_of mid.memory block large.size large.align) mid new
    block large.size large.align (answer_of (Err c.in_err-grown.field-0.0)) large.valid (omega arith)
    (omega (arith, most, first.frame.min_align, c.known.ensures.state)) c.in_err-grown.ensures in
    let power : IsTrue (is_power block.align) = rw first.of_layout.of_align (layout_power small.size small.align small.valid) in
    let low : block.align ≤ 16 = omega (arith, first.of_layout.of_align) in
    let p = err_from_is_err_and c.from_residual-in_err-grown.result c.from_residual-in_err-grown.ensures.1 in
    rw (p.1, p.2) (record {
      asks = c.asked_together.ensures.then (needed old small.size large.size) old.memory.state mid.memory.state new.memory.state
          old.source mid.source new.source one two;
      starved = λ growing k is.
          let still_growing = first.frame.is_growing ∙ growing in
          c.starved_together.ensures.after (needed old small.size large.size) (2 ^ 63) old.memory.state mid.memory.state new.memory.state
          old.source mid.source new.source growing one two.chunks
          (c.starved_together.ensures.by (2 ^ 63 + 2 ^ 61) mid.memory.state new.memory.state mid.source new.source still_growing
          (λ near. c.starved.ensures.grown mid new block large.size large.align k large.valid (omega arith) power low
          (omega arith) still_growing
          (rw is at c.in_err-grown.ensures) (omega (arith, near))));
      full = λ still k is. full_within _ (needed old small.size large.size) old mid
          (omega (arith, most, first.frame.min_align, c.known.ensures.state))
          first.frame.is_growing (first.frame.allocated still)
          (c.full.ensures.grown mid new block large.size large.align k large.valid power low (first.frame.is_growing ∙ still) (rw is at c.in_err-grown.ensures));
    })
