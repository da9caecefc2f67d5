use Rattle.std.proofs.Common.{◌-◌, refl, rules}
use Rattle.std.proofs.lemmas.Iterator.{YieldsList-from_range}
use Rattle.example_collections.proofs.TakingLemmas.{all_placed, some_placed}
use Rattle.example_collections.proofs.taking.put_numbers.Goals as goal

pub returns : goal.returns
returns g c =
    let gone = c.splice.ensures in
    let n = c.args.numbers in
    let yields = YieldsList-from_range n.start n.end (n.end - n.start) refl refl in
    let replaces = rw (gone.vec, gone.arena, gone.with, gone.range.0, gone.range.1) at c.finish.ensures.replaces in
    let all = all_placed yields replaces in
    let some = some_placed yields replaces in
    record { held = search rules; ok = search rules; err = search rules; frame = search rules }
