use Rattle.std.proofs.Common.{◌≡◌, ◌-◌, ◌<◌, ap, ◌∙◌, arith}
use Rattle.hash_ring.specs.Marks.{mark_of}
use Rattle.arena_table.proofs.EditedLemmas.{back-away, back-distance}
use Rattle.arena_table.proofs.HandleLemmas.{held-taken}
use Rattle.arena_table.proofs.changes.mark_back.Goals as goal

pub returns-then-mark-lt-FAR : goal.returns-then-mark-lt-FAR
returns-then-mark-lt-FAR g c = λ x there.
    let back = back-away _ _ _ _ c.requires.held (omega (arith, c.requires.index)) c.args.from _ c.requires.mark c.requires.away x there in
    (back.0, back.1, omega (arith, back.2))

pub hash_at-hash-requires-clause-taken : goal.hash_at-hash-requires-clause-taken
hash_at-hash-requires-clause-taken g c =
    held-taken c.requires.held c.requires.keys_small c.requires.values_small c.args.from c.requires.index
    (omega (arith, c.requires.mark, c.requires.away))

pub overflow_sub-distance : goal.overflow_sub-distance
overflow_sub-distance g c =
    let x = held-taken c.requires.held c.requires.keys_small c.requires.values_small c.args.from c.requires.index
    (omega (arith, c.requires.mark, c.requires.away)) in
    let same = back-distance _ _ _ _ c.requires.held (omega (arith, c.requires.index)) _ _ c.requires.mark c.requires.away x.0 x.1 _
    c.distance.result (c.hash_at-hash.ensures x.0 x.1) c.distance.ensures.less c.distance.ensures.place in
    omega (arith, same)

pub returns : goal.returns
returns g c = λ x there.
    let some : 0 < c.args.table.slots = omega (arith, c.requires.index) in
    let back = back-away _ _ _ _ c.requires.held some c.args.from _ c.requires.mark c.requires.away x there in
    let hash = c.hash_at-hash.ensures x there in
    let same = back-distance _ _ _ _ c.requires.held some _ _ c.requires.mark c.requires.away x there _ c.distance.result hash
    c.distance.ensures.less c.distance.ensures.place in
    let one : c.distance.result - 1 ≡ back.0 = omega (arith, same) in
    (back.0, back.1, c.mark_of.ensures ∙ (ap (mark_of c.hash_at-hash.result) one ∙ ap (λ h. mark_of h back.0) hash))
