use Rattle.std.proofs.lemmas.Bool.Decides.{nat_tests}
use Rattle.std.proofs.Common.{ℕ, ◌<◌, sym, subst, arith}
use Rattle.std.proofs.Math.Nat.{mod-lt}
use Rattle.arena_table.proofs.PutLemmas.{putting-start, putting-less, putting-marked, putting-on, putting-done}
use Rattle.arena_table.proofs.SlotLemmas.{slot-free, slot-taken}
use Rattle.arena_table.proofs.put.put_at.Goals as goal

pub slots-init : goal.slots-init
slots-init g c = grind (arith, nat_tests, putting-start)

pub returns-then-old-eq0 : goal.returns-then-old-eq0
returns-then-old-eq0 g c =
    let some : 0 < c.args.slots = omega arith in
    let at = c.slots.invariant in
    record {
      long = omega (arith, c.set_slot.ensures.shape.long, c.requires.shape.long);
      settles = λ hash d table place is room.
          let s = at.walk hash d table place is room in
          let n : ℕ = c.args.slots in
          let sets = c.set_slot.ensures.sets (putting-marked g.K.Item g.V.Item hash n some _ _ _ _ _ _ _ _ s) in
          putting-done g.K.Item g.V.Item hash n some _ _ _ _ _ _ _ _ _ c.requires.at room at.shape at.within s sets
          (slot-free g.K.Item g.V.Item n c.slots.bytes at.shape c.slots.i at.within c.if-old-eq0.true);
    }

pub slots-preserved : goal.slots-preserved
slots-preserved g c =
    let some : 0 < c.args.slots = omega arith in
    let n : ℕ = c.args.slots in
    let at = c.slots.invariant in
    let taken = slot-taken _ _ _ _ at.shape c.slots.i at.within (omega arith) in
    record {
      shape = c.set_slot-in-slots.ensures.shape;
      within = subst (λ w. w < n) (sym c.ring-i.ensures) (mod-lt _ some);
      long = omega (arith, c.set_slot-in-slots.ensures.shape.long, c.requires.shape.long);
      walk = λ hash d table place is room.
          let s = at.walk hash d table place is room in
          let sets = c.set_slot-in-slots.ensures.sets (putting-marked g.K.Item g.V.Item hash n some _ _ _ _ _ _ _ _ s) in
          putting-on _ _ hash _ some _ _ _ _ _ _ _ _ _ c.requires.at room at.shape at.within s sets taken.0 _ _ _ _ taken.1
          (c.key_at-old_key.ensures taken.0 taken.1) (c.value_at-old_value.ensures taken.0 taken.1) c.ring-i.ensures
          (λ e is. c.farther-carried.ensures (hash taken.0) e is);
    }

pub returns : goal.returns
returns g c =
    let some : 0 < c.args.slots = omega arith in
    record {
      long = c.slots.invariant.long;
      settles = λ hash d table place is room.
          let s = c.slots.invariant.walk hash d table place is room in
          absurd (omega (arith, putting-less g.K.Item g.V.Item hash c.args.slots some _ _ _ _ _ _ _ _ c.requires.at room s));
    }
