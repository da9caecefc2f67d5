use Rattle.std.proofs.Common.{arith}
use Rattle.arena_store.proofs.BelowLemmas.{rises, split_last}
use Rattle.arena_store.proofs.below.split_of.Goals as goal

pub returns-then-base_at-addr : goal.returns-then-base_at-addr
returns-then-base_at-addr g c = split_last _ _ _ _ c.base_at.ensures.rises (omega (arith, c.requires.some.1)) c.len-n.ensures
    c.base_at.ensures.value (omega (arith, c.if-base_at-addr.true))

pub count-requires-clause-first : goal.count-requires-clause-first
count-requires-clause-first g c =
    let some = c.requires.some in
    omega (arith, some.2, rises c.args.bases.now.items 0 some.0 c.base_at.ensures.rises (omega arith) some.1)
