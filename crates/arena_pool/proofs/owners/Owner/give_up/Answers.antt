use Rattle.std.proofs.Common.{rules, arith, ◌≡◌, [], ◌∷◌, Some, ap, sym, ◌∙◌, ⊎_elim}
use Rattle.atomic_table.specs.Table.{rest}
use Rattle.arena_pool.specs.Claiming.{times, with_taken}
use Rattle.arena_pool.proofs.ClaimLemmas.{times-append}
use Rattle.arena_pool.specs.Sharing.{with_lists}
use Rattle.arena_pool.proofs.OwnerLemmas.{firsts, seconds}
use Rattle.arena_pool.proofs.owners.Owner.give_up.Goals as goal

pub swap-requires : goal.swap-requires
swap-requires g c = (search rules, search rules, firsts _ _ _ _ c.self.invariant.3 c.self.invariant.4)

pub swap-requires-2 : goal.swap-requires-2
swap-requires-2 g c =
    let me = c.self.inside.seat.me.0 in
    let is : c.swap.new.seat.me.0 ≡ with_lists (with_taken 0 me.lists) me =
    ⊎_elim (λ h. absurd (c.if-swap-eq0.false h.0)) (λ h. h.1) c.swap.ensures.2.1 in (
      search rules,
      search rules,
      seconds _ _ _ _
          (ap (λ v. v.stage) is ∙ c.self.invariant.3)
          (ap (λ v. v.lists.claimed) is ∙ c.self.invariant.4)
          (let n = ap (λ v. times 0 v.lists.taken) is in omega (arith, n, times-append 0 me.lists.taken (0 ∷ [])))
          (c.swap.ensures.2.0 ∙ c.self.invariant.5),
    )

pub exchange-found-requires : goal.exchange-found-requires
exchange-found-requires g c =
    let x = Some c.swap.new.seat.me.0.shared in
    let e : c.swap-2.new.seat.me.1 ≡ (0, x) ∷ [] = ap (λ m. m.1) c.swap-2.ensures.2.1 in
    (search rules, (x, e ∙ ap (λ l. (0, x) ∷ rest l) (sym e)))
