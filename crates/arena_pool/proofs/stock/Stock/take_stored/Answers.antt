use Rattle.std.proofs.Common.{Some, arith}
use Rattle.std.proofs.lemmas.List.Elements.{All-pop}
use Rattle.arena_pool.specs.Pool.{IsPooled}
use Rattle.arena_pool.proofs.stock.Stock.take_stored.Goals as goal

pub invariant_of-self : goal.invariant_of-self
invariant_of-self g c =
    let was = c.self.invariant in
    let last = c.take_last.ensures in
    let rest = All-pop (IsPooled c.self.inside.kind c.self.inside.limit) _ _ (Some c.take_last.result) last.items was.2 in
    (omega (arith, was.0, last.len), omega (arith, was.1, last.len, last.capacity), rest.0, was.3)

pub returns-clause-lent : goal.returns-clause-lent
returns-clause-lent g c =
    let P = IsPooled c.self.inside.kind c.self.inside.limit in
    rw (← c.self.view_is) (All-pop P _ _ (Some c.take_last.result) c.take_last.ensures.items c.self.invariant.2).1
