use Rattle.std.proofs.Common.{arith}
use Rattle.arena_rules.specs.Rounding.{up}
use Rattle.arena_cursor.proofs.PlaceLemmas.{valid_is, size_grows}
use Rattle.arena_cursor.proofs.ApartLemmas.{resized_down}
use Rattle.arena_cursor.proofs.StepLemmas.{grow_down}
use Rattle.arena_cursor.proofs.cursor.Cursor.grow.Goals as goal

pub returns-in-Some-alloc-clause-step : goal.returns-in-Some-alloc-clause-step
returns-in-Some-alloc-clause-step c =
    let below = c.in-Some.ensures.value in
    grow_down c.args.self.now c.args.addr c.args.from.size c.args.from.align c.args.to.size c.args.to.align c.alloc-2.new.self
    c.in-Some-alloc.lower c.in-Some.below.size below.0 (omega (arith, c.if-from-to.false)) (omega (arith, c.if-addr-self.false))
    (rw below.1 at c.in-Some.below.valid) (rw below.1 at c.in-Some-alloc.ensures.found) c.in-Some-alloc.ensures.moves

pub returns-in-Some-alloc-clause-resized : goal.returns-in-Some-alloc-clause-resized
returns-in-Some-alloc-clause-resized c =
    let below = c.in-Some.ensures.value in
    let high = c.in-Some-alloc.ensures.high in
    resized_down c.args.self.now c.alloc-2.new.self c.args.addr c.args.from.size c.in-Some-alloc.lower c.args.to.size
    (up c.args.to.size c.args.self.now.min_align) c.requires.used (omega (arith, c.if-addr-self.false)) c.in-Some-alloc.ensures.moves
    c.requires.size (size_grows c.args.to.size c.args.self.now.min_align (valid_is c.args.self.now c.requires.valid).least)
    (omega (arith, high, below.0))
