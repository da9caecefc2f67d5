use Rattle.std.proofs.Common.{ℕ, arith, refl, true, ◌+◌, ◌-◌, ◌*◌, ◌∷◌, drop, sym, ap, ◌∙◌}
use Rattle.std_alloc.proofs.RetainMut.{Called-Mut}
use Rattle.arena_items.specs.Values.{bytes_of}
use Rattle.arena_items.proofs.Layers.{elements-empty, wrote_same}
use Rattle.raw_vec.proofs.Windows.{left_first_at}
use Rattle.arena_vec.proofs.VecLemmas.{room_of}
use Rattle.arena_vec.proofs.SiftLemmas.{behind_put}
use Rattle.arena_vec.proofs.TurnLemmas.{turn_now, turn_on}
use Rattle.arena_vec.proofs.FilterLemmas.{filters_more, filters_end}
use Rattle.arena_vec.proofs.drain_filter.DrainFilterIterator.next.Goals as goal

pub pred-requires : goal.pred-requires
pred-requires g c =
    let inv = c.loop-self.invariant in
    let d = c.loop-self.self in
    let n : ℕ = d.vec.now.raw.len in
    let got = rw inv.block at (c.item_at-item.ensures n (omega (arith, inv.len))) in
    turn_now (left_first_at g.T.Item.SIZE g.T.Item.decoded n d.front n _ _ (omega (arith, inv.len)) (omega arith) got) inv.filters.callable
    _ refl

pub returns-then-pred-clause-steps : goal.returns-then-pred-clause-steps
returns-then-pred-clause-steps g c =
    let inv = c.loop-self.invariant in
    let d = c.loop-self.self in
    let n : ℕ = d.vec.now.raw.len in
    let got = rw inv.block at (c.item_at-item.ensures n (omega (arith, inv.len))) in
    let first = left_first_at g.T.Item.SIZE g.T.Item.decoded n d.front n _ _ (omega (arith, inv.len)) (omega arith) got in
    let told = rw c.if-pred.true at (Called-Mut g.F.FnMut c.pred.ensures) in
    inv.onward _ _ (filters_end refl refl refl (rw first (true, _, _, told, (refl, refl, refl, refl))) (record {
      small = inv.filters.small;
      held = inv.filters.held;
      order = omega (arith, inv.filters.order);
      within = omega (arith, inv.len);
      callable = turn_on first inv.filters.callable _ (_, _, told);
    }))

pub returns-then-pred-clause-goes : goal.returns-then-pred-clause-goes
returns-then-pred-clause-goes g c =
    let inv = c.loop-self.invariant in
    let steps = returns-then-pred-clause-steps g c in
    let len = ap (λ v. v.raw.len) steps.vec in
    record { on = λ _. (steps.filters, tt, omega (arith, inv.from, inv.len, len)); keeps = steps.filters; rests = λ _. tt }

pub loop-self-preserved : goal.loop-self-preserved
loop-self-preserved g c =
    let inv = c.loop-self.invariant in
    let d = c.loop-self.self in
    let item = g.T.Item in
    let n : ℕ = d.vec.now.raw.len in
    let held = inv.filters.held in
    let got = rw inv.block at (c.item_at-item.ensures n (omega (arith, inv.len))) in
    let first = left_first_at item.SIZE item.decoded n d.front n _ c.item_at-item.result (omega (arith, inv.len)) (omega arith) got in
    let told = rw c.if-pred.false at (Called-Mut g.F.FnMut c.pred.ensures) in
    let puts = rw inv.block at c.put_item.ensures in
    let set = puts.set n (omega (arith, inv.filters.order, inv.len)) (room_of item d.arena.now.memory d.vec.now n held held.within) in
    let behind = behind_put item.SIZE item.decoded n d.kept (d.front + 1) _ _ c.pred.new.arg2 (omega (arith, inv.filters.order))
    (omega (arith, inv.len)) set in
    record {
      filters = record {
        small = inv.filters.small;
        held = record { place = rw puts.writes.state held.place; within = held.within; no_bytes = held.no_bytes };
        order = omega (arith, inv.filters.order);
        within = omega (arith, inv.len);
        callable = rw behind (turn_on first inv.filters.callable _ (_, _, told));
      };
      len = inv.len;
      block = inv.block;
      from = omega (arith, inv.from);
      onward = λ r e rest. inv.onward r e (filters_more refl _ (first ∙ ap (λ l. c.item_at-item.result ∷ l) (sym behind)) told puts.push refl
          (wrote_same _ _ _ _ _ puts.writes puts.source) puts.writes.frame rest);
    }

pub returns-clause-steps : goal.returns-clause-steps
returns-clause-steps g c =
    let inv = c.loop-self.invariant in
    let d = c.loop-self.self in
    let none = elements-empty g.T.Item.SIZE g.T.Item.decoded (d.vec.now.raw.len - d.front)
    (drop (d.front * g.T.Item.SIZE) (bytes_of d.arena.now.memory d.vec.now.raw.block)) (omega (arith, inv.len)) in
    inv.onward _ _ (filters_end refl refl refl (rw none (refl, refl, refl, refl)) inv.filters)
