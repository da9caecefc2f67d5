use Rattle.std.proofs.Common.{◌<◌, arith}
use Rattle.std.proofs.lemmas.Bool.Decides.{nat_tests}
use Rattle.std.specs.Prelude.{slice_index}
use Rattle.arena_items.specs.Values.{bytes_of}
use Rattle.hash_ring.proofs.Order.{away-by, away-same}
use Rattle.arena_table.proofs.HandleLemmas.{handle-shape, held-homes, held-taken, in-marked}
use Rattle.arena_table.proofs.far.is_behind.Goals as goal

pub bounds-read-at : goal.bounds-read-at
bounds-read-at g c = grind (arith, nat_tests, handle-shape)

pub returns-then-read-at-lt-FAR-clause-nearer : goal.returns-then-read-at-lt-FAR-clause-nearer
returns-then-read-at-lt-FAR-clause-nearer g c = λ is y e away.
    let some : 0 < c.args.table.slots = omega (arith, c.requires.index) in
    let are = in-marked _ _ _ _ c.requires.keys_small c.requires.values_small some c.requires.held in
    let less : slice_index (bytes_of c.args.a.now.memory c.args.table.block) c.args.at < 240 =
    rw c.read.ensures at c.if-read-at-lt-FAR.true in
    omega (arith, c.requires.far, are.marks c.args.at e y away, less)

pub hash_at-requires-clause-taken : goal.hash_at-requires-clause-taken
hash_at-requires-clause-taken g c =
    held-taken c.requires.held c.requires.keys_small c.requires.values_small c.args.at c.requires.index
    (omega (arith, rw c.read.ensures at c.if-read-at-lt-FAR.false))

pub returns-clause-behind : goal.returns-clause-behind
returns-clause-behind g c = λ is_true.
    let there = held-taken c.requires.held c.requires.keys_small c.requires.values_small c.args.at c.requires.index
    (omega (arith, rw c.read.ensures at c.if-read-at-lt-FAR.false)) in
    record {
      item = there.0;
      distance = c.distance.result;
      away = away-by _ _ _ _ _ _ there.0 there.1 (c.hash_at.ensures there.0 there.1) c.distance.ensures.less c.distance.ensures.place;
      far = grind (arith, nat_tests, is_true);
    }

pub returns-clause-nearer : goal.returns-clause-nearer
returns-clause-nearer g c = λ is_false y e other.
    let some : 0 < c.args.table.slots = omega (arith, c.requires.index) in
    let there = held-taken c.requires.held c.requires.keys_small c.requires.values_small c.args.at c.requires.index
    (omega (arith, rw c.read.ensures at c.if-read-at-lt-FAR.false)) in
    let same = away-same _ _ (held-homes c.requires.held some) _ _ _ e there.0 y
    (away-by _ _ _ _ _ _ there.0 there.1 (c.hash_at.ensures there.0 there.1) c.distance.ensures.less c.distance.ensures.place) other in
    grind (arith, nat_tests, is_false, same)
