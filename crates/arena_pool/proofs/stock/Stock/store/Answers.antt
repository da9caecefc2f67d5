use Rattle.std.proofs.Common.{ap, arith, subst, sym}
use Rattle.std.proofs.lemmas.List.Elements.{All-push}
use Rattle.arena_pool.specs.Pool.{Pool, IsPooled}
use Rattle.arena_pool.proofs.stock.Stock.store.Goals as goal

pub invariant_of-self : goal.invariant_of-self
invariant_of-self g c =
    let was = c.self.invariant in
    let push = c.push_reserved.ensures in
    let lent = ap (λ (p : Pool). p.lent) c.self.view_is in
    let pooled = subst (λ (p : Pool). IsPooled p.kind p.limit (g.P.Packing.unpacked c.args.arena, c.args.id)) (sym c.self.view_is)
    (record { unused = c.requires.unused; id = c.requires.id; within = c.requires.within }) in (
      omega (arith, lent, c.requires.lent, was.0, push.len),
      omega (arith, lent, c.requires.lent, was.1, push.len, push.capacity),
      rw push.items (All-push (IsPooled c.self.inside.kind c.self.inside.limit) _ _ was.2 pooled),
      was.3,
    )
