use Rattle.std.proofs.Common.{◌≡◌, ℕ, ◌-◌, true, false, ap, arith, subst, refl, sym, ◌∙◌}
use Rattle.std.specs.Prelude.{nat_le}
use Rattle.std.proofs.lemmas.Bool.Decides.{nat_tests}
use Rattle.arena_store.specs.Table.{IsSplit}
use Rattle.arena_store.proofs.BelowLemmas.{last_split}
use Rattle.arena_store.proofs.KeptLemmas.{items_length}
use Rattle.arena_store.proofs.LookupLemmas.{no_number, found_number}
use Rattle.arena_store.proofs.table.Table.number_of.Goals as goal

pub returns-then-n-eq0-clause-number : goal.returns-then-n-eq0-clause-number
returns-then-n-eq0-clause-number g c =
    sym (no_number _ _ _ _ c.self.invariant c.self.view_is c.args.addr
    (subst (λ n. IsSplit c.self.inside.bases.items c.args.addr n) c.if-n-eq0.true c.search-n.ensures.split))

pub returns-then-n-eq0-clause-cost : goal.returns-then-n-eq0-clause-cost
returns-then-n-eq0-clause-cost g c =
    omega (arith, c.search-n.ensures.cost, items_length _ _ _ _ c.self.invariant c.self.view_is, c.self.invariant.pairs)

pub returns-then-addr-base-clause-number : goal.returns-then-addr-base-clause-number
returns-then-addr-base-clause-number g c =
    let some = c.if-n-eq0.false in
    let last = last_split _ _ _ c.search-n.ensures.split (omega (arith, some)) in
    let offset = ap (λ (b : ℕ). c.args.addr - b) (c.search-n.ensures.last (omega (arith, some))) in
    let is = c.if-addr-base.true in
    let test : nat_le (c.args.addr - c.search-n.result.1) c.len-len.result ≡ true = grind (arith, nat_tests) in
    sym (found_number _ _ _ _ c.self.invariant c.self.view_is c.args.addr _ _ last offset _ c.index.ensures
    ∙ rw (← c.len-len.ensures.value, test) refl)

pub returns-then-addr-base-clause-cost : goal.returns-then-addr-base-clause-cost
returns-then-addr-base-clause-cost g c =
    omega (arith, c.search-n.ensures.cost, items_length _ _ _ _ c.self.invariant c.self.view_is, c.self.invariant.pairs)

pub returns-else-addr-base-clause-number : goal.returns-else-addr-base-clause-number
returns-else-addr-base-clause-number g c =
    let some = c.if-n-eq0.false in
    let last = last_split _ _ _ c.search-n.ensures.split (omega (arith, some)) in
    let offset = ap (λ (b : ℕ). c.args.addr - b) (c.search-n.ensures.last (omega (arith, some))) in
    let is = c.if-addr-base.false in
    let test : nat_le (c.args.addr - c.search-n.result.1) c.len-len.result ≡ false = grind (arith, nat_tests) in
    sym (found_number _ _ _ _ c.self.invariant c.self.view_is c.args.addr _ _ last offset _ c.index.ensures
    ∙ rw (← c.len-len.ensures.value, test) refl)

pub returns-else-addr-base-clause-cost : goal.returns-else-addr-base-clause-cost
returns-else-addr-base-clause-cost g c =
    omega (arith, c.search-n.ensures.cost, items_length _ _ _ _ c.self.invariant c.self.view_is, c.self.invariant.pairs)
