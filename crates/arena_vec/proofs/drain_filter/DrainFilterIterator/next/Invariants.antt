use Rattle.std.proofs.Common.{◌≡◌, ◌≤◌, ◌-◌}
use Rattle.std.specs.Fn.{CalledAtMut}
use Rattle.arena_vec.specs.Calling.{CallableOnListMut}
use Rattle.arena_vec.specs.Filtering.{IsFilter, Filters}
use Rattle.arena_vec.proofs.drain_filter.DrainFilterIterator.next.Given as goal

abbrev pub invariant-loop-self : goal.invariant-loop-self
invariant-loop-self g l =
    let Gives = Filters g.T.Item (CallableOnListMut g.F.FnMut) (CalledAtMut g.F.FnMut) in
    record {
      filters : IsFilter g.T.Item (CallableOnListMut g.F.FnMut) l.self;
      len : l.len ≡ l.self.vec.now.raw.len;
      block : l.block ≡ l.self.vec.now.raw.block;
      from : l.initial.self.front ≤ l.self.front;
      onward : (r : _) (e : _) → Gives l.self r e → Gives l.initial.self r e;
    }

abbrev pub decreases-loop-self : goal.decreases-loop-self
decreases-loop-self g l = l.len - l.self.front
