use Rattle.std.proofs.lemmas.Bool.Decides.{nat_tests}
use Rattle.std.proofs.Common.{◌≡◌, ◌+◌, ◌-◌, arith, ap, get_or, length}
use Rattle.arena_store.specs.declared.table.Kept.{Kept}
use Rattle.arena_store.proofs.ShiftLemmas.{moved_in_last}
use Rattle.arena_store.proofs.CopiedKeptLemmas.{copied_same, copied_up, copied_down}
use Rattle.arena_store.proofs.table.copy_kept.Goals as goal

pub returns-then-i-j : goal.returns-then-i-j
returns-then-i-j c =
    let k : Kept = get_or c.args.kept.now c.args.j c.index-kept-j.result in
    let at : k ≡ get_or c.args.kept.now c.args.j k = ap (get_or c.args.kept.now c.args.j) c.index-kept-j.is in
    let here : k ≡ get_or c.args.kept.now c.args.i k = rw c.if-i-j.true at in
    let low : c.low-low.result ≡ k.bytes.low = c.low-low.ensures.value in
    let len : c.len.result ≡ length k.bytes.items = c.len.ensures.value in
    let source = c.requires.source.ready k here in
    let target = c.requires.target.ready k at in
    let from : c.low-low.result + (c.args.from - c.low-low.result) ≡ c.args.from = omega (arith, low, source) in
    let to : c.low-low.result + (c.args.to - c.low-low.result) ≡ c.args.to = omega (arith, low, target) in
    copied_same c.args.kept.now c.args.i c.args.j k _ c.args.from c.args.to c.args.n c.if-i-j.true at
    (rw (from, to) at (moved_in_last k.bytes.items c.part_mut-place.result.now c.shift.new.bytes c.low-low.result
    (c.args.from - c.low-low.result) (c.args.to - c.low-low.result) c.args.n
    (rw len at c.part_mut-place.ensures.value) c.shift.ensures (omega (arith, from, c.requires.source.range k here))
    (omega (arith, to, c.requires.target.range k at))))

pub returns-then-i-j-2 : goal.returns-then-i-j-2
returns-then-i-j-2 c = grind (arith, nat_tests, copied_up, get_or)

pub returns-else-i-j-2 : goal.returns-else-i-j-2
returns-else-i-j-2 c = grind (arith, nat_tests, copied_down, get_or)
