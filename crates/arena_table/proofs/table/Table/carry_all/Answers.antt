use Rattle.std.proofs.lemmas.Bool.Decides.{nat_tests}
use Rattle.std.proofs.Common.{refl, sym, subst, ◌∙◌, arith, [], ◌∷◌, take}
use Rattle.arena_chunks.proofs.Layers.{frame_reflexive, frame_then}
use Rattle.arena_items.proofs.Layers.{same_then}
use Rattle.arena_items.specs.Values.{bytes_of}
use Rattle.hash_ring.specs.Walks.{front_of, AreFree, CarriesNext}
use Rattle.hash_ring.proofs.Fill.{Filled, filled-start, filled-room, filled-goes, filled-whole}
use Rattle.arena_table.specs.Tables.{slots_in, slots_of}
use Rattle.arena_table.proofs.ReadLemmas.{read-bytes, read-stays}
use Rattle.arena_table.proofs.WalkLemmas.{walk-free, walk-goes, walk-shape, walk-slots}
use Rattle.arena_table.proofs.table.Table.carry_all.Goals as goal

pub pairs-init : goal.pairs-init
pairs-init g c =
    let m = c.args.a.now.memory in
    let n = c.args.from.slots in
    let bytes = bytes_of m c.args.from.block in
    let from = slots_in g.K.Item g.V.Item m c.args.from in
    let shape = walk-shape _ _ _ _ bytes c.requires.keys_small c.requires.values_small c.requires.from.handle refl in
    record {
      held = c.requires.held;
      from = c.requires.from;
      same = refl;
      scan = rw c.read.ensures at c.start-scan.ensures.scan;
      filled = subst (Filled from (front_of c.start-scan.result)) (sym c.requires.free)
          (filled-start n (take n bytes) from (walk-slots g.K.Item g.V.Item n bytes shape) (walk-free g.K.Item g.V.Item n bytes shape)
          c.start-scan.result c.args.self.slots (rw c.read.ensures at c.start-scan.ensures.free));
      places = record { state = refl; statistics = refl; source = refl };
      frame = frame_reflexive m (c.args.self.block ∷ []);
    }

pub carry-requires-clause-free : goal.carry-requires-clause-free
carry-requires-clause-free g c = grind (arith, nat_tests, filled-room)

pub carry-requires-clause-scan : goal.carry-requires-clause-scan
carry-requires-clause-scan g c = rw c.pairs.invariant.same c.pairs.invariant.scan

pub pairs-preserved : goal.pairs-preserved
pairs-preserved g c =
    let at = c.pairs.invariant in
    let m = c.args.a.now.memory in
    let old = c.pairs.a.memory in
    let new = c.carry.new.a.memory in
    let n = c.args.from.slots in
    let bytes = bytes_of m c.args.from.block in
    let one = slots_in g.K.Item g.V.Item old c.args.self in
    let other = slots_in g.K.Item g.V.Item new c.args.self in
    let shape = walk-shape _ _ _ _ bytes c.requires.keys_small c.requires.values_small c.requires.from.handle refl in
    let next : CarriesNext n (take n bytes) (slots_of g.K.Item g.V.Item n bytes) one other c.pairs.scan c.in-Some.next =
    subst (λ b. CarriesNext n (take n b) (slots_of g.K.Item g.V.Item n b) one other c.pairs.scan c.in-Some.next) at.same
    c.in-Some.ensures.carries in
    let x = walk-goes g.K.Item g.V.Item _ bytes shape _ _ _ next.goes in
    record {
      held = c.carry.ensures.held;
      from = read-stays _ _ _ _ _ c.carry.ensures.frame at.from;
      same = read-bytes _ _ _ _ _ c.carry.ensures.frame at.from ∙ at.same;
      scan = next.scan_next;
      filled = filled-goes _ _ _ (walk-slots g.K.Item g.V.Item n bytes shape) (walk-free g.K.Item g.V.Item n bytes shape) _ _ _ _ _ _
          next.goes x.1 (next.settled x.0 x.1) at.filled;
      places = same_then _ _ _ at.places c.carry.ensures.places;
      frame = frame_then _ _ _ _ _ _ at.frame c.carry.ensures.frame;
    }

pub pairs-smaller : goal.pairs-smaller
pairs-smaller g c = grind (arith, nat_tests)

pub returns-clause-moved : goal.returns-clause-moved
returns-clause-moved g c =
    let m = c.args.a.now.memory in
    let n = c.args.from.slots in
    let bytes = bytes_of m c.args.from.block in
    let shape = walk-shape _ _ _ _ bytes c.requires.keys_small c.requires.values_small c.requires.from.handle refl in
    let ends = c.in_default.ensures.carries in
    let free : AreFree (take n bytes) (front_of c.pairs.scan) n = subst (λ b. AreFree (take n b) (front_of c.pairs.scan) n)
    c.pairs.invariant.same ends.0 in
    filled-whole _ (take n bytes) _ (walk-slots g.K.Item g.V.Item n bytes shape) (walk-free g.K.Item g.V.Item n bytes shape) c.pairs.scan _
    free (subst (Filled (slots_of g.K.Item g.V.Item n bytes) (front_of c.pairs.scan)) (sym ends.1) c.pairs.invariant.filled)

pub returns-clause-places : goal.returns-clause-places
returns-clause-places g c = same_then c.args.a.now c.pairs.a c.carry.new.a c.pairs.invariant.places c.carry.ensures.places

pub returns-clause-frame : goal.returns-clause-frame
returns-clause-frame g c = grind (arith, nat_tests, frame_then)
