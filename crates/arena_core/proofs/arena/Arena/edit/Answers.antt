use Rattle.std.proofs.lemmas.Bool.Decides.{nat_tests}
use Rattle.std.proofs.Common.{◌+◌, ◌∙◌, ap, arith, length, sym, subst, List, ℕ}
use Rattle.arena_store.specs.Memory.{Memory, image}
use Rattle.arena_store.proofs.BytesLemmas.{length-bytes}
use Rattle.arena_core.specs.BlockCalls.{WritesBlock}
use Rattle.arena_core.proofs.PartLemmas.{newest_range, range_fits, newest_part, newest_bytes, newest_lent, lent_writes}
use Rattle.arena_core.proofs.arena.Arena.edit.Goals as goal

pub returns-then-size-eq0 : goal.returns-then-size-eq0
returns-then-size-eq0 g c = grind (arith, nat_tests, length-bytes)

-- ---- In the newest chunk

pub overflow_add-block : goal.overflow_add-block
overflow_add-block g c =
    let is = newest_range g.row.MIN_ALIGN c.self.inside c.args.self.now c.args.block c.args.at c.args.size c.self.invariant c.self.view_is c.requires.readable c.requires.range
    c.if-size-eq0.false c.if-block-newest.false in
    omega (arith, range_fits _ _ _ _ _ is.0)

pub part_at_mut-requires : goal.part_at_mut-requires
part_at_mut-requires g c =
    let is = newest_range g.row.MIN_ALIGN c.self.inside c.args.self.now c.args.block c.args.at c.args.size c.self.invariant c.self.view_is c.requires.readable c.requires.range
    c.if-size-eq0.false c.if-block-newest.false in
    let part = newest_part _ _ _ _ _ is.0 is.1 in
    record { low = omega (arith, part.ready, part.used); high = omega (arith, part.high, is.1) }

pub edit-requires-2 : goal.edit-requires-2
edit-requires-2 g c = grind (arith, nat_tests, newest_range, newest_bytes)

pub invariant_of-self : goal.invariant_of-self
invariant_of-self g c =
    let is = newest_range g.row.MIN_ALIGN c.self.inside c.args.self.now c.args.block c.args.at c.args.size c.self.invariant c.self.view_is c.requires.readable c.requires.range
    c.if-size-eq0.false c.if-block-newest.false in
    (newest_lent _ _ _ _ _ c.edit-2.new.place is.0 is.1).stored

pub returns : goal.returns
returns g c =
    let is = newest_range g.row.MIN_ALIGN c.self.inside c.args.self.now c.args.block c.args.at c.args.size c.self.invariant c.self.view_is c.requires.readable c.requires.range
    c.if-size-eq0.false c.if-block-newest.false in
    let value = c.part_at_mut.ensures.value ∙ newest_bytes _ _ _ _ _ is.0 is.1 in
    let sized = c.edit-2.auto.place ∙ ap length value ∙ length-bytes (image c.args.self.now) (c.args.block.addr + c.args.at) c.args.size in
    let lent = newest_lent _ _ _ _ _ c.edit-2.new.place is.0 is.1 in
    record {
      list = c.edit-2.new.place;
      sized = sized;
      related = subst (λ (l : List ℕ). g.E.Edit.relates c.args.e.now l c.edit-2.new.place) value c.edit-2.ensures;
      writes = subst (λ (w : Memory). WritesBlock c.args.self.now w c.args.block c.args.at c.edit-2.new.place) (sym lent.view)
          (lent_writes _ _ _ c.args.block c.args.at c.args.size _ _ _ c.self.invariant c.self.view_is c.requires.range lent sized);
    }
