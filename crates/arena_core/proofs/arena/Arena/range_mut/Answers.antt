use Rattle.std.proofs.lemmas.Bool.Decides.{nat_tests}
use Rattle.std.proofs.Common.{◌≡◌, ℕ, ◌+◌, ◌∙◌, List, length, sym, arith, refl}
use Rattle.arena_store.specs.Memory.{image}
use Rattle.arena_store.proofs.BytesLemmas.{no_bytes}
use Rattle.arena_core.proofs.PartLemmas.{block_range, newest_range, older_range, range_fits, newest_part, newest_bytes, newest_lent, older_part, older_bytes, older_lent, none_lent, lent_writes}
use Rattle.arena_core.proofs.arena.Arena.range_mut.Goals as goal

pub returns-then-size-eq0 : goal.returns-then-size-eq0
returns-then-size-eq0 g c =
    let is = none_lent g.row.MIN_ALIGN c.self.inside c.args.self.now (c.args.block.addr + c.args.at) _ c.args.size in
    let end : c.size.result ≡ length c.self.inside.newest.bytes.items = c.size.ensures in
    let made = (λ (list : List ℕ). is list c.self.invariant c.self.view_is c.if-size-eq0.true (omega (arith, end))) in (
      (refl, λ w. (made w).view),
      record {
        writes_back = tt;
        value = c.part_at_mut.ensures.value
            ∙ sym (no_bytes (image c.args.self.now) (c.args.block.addr + c.args.at) c.args.size c.if-size-eq0.true);
        writes = λ list. lent_writes _ _ _ c.args.block c.args.at c.args.size list _ _ c.self.invariant c.self.view_is c.requires.range
            (made list);
      },
    )

pub overflow_add-addr : goal.overflow_add-addr
overflow_add-addr g c = omega (
  arith,
  range_fits _ _ _ _ _ (block_range g.row.MIN_ALIGN c.self.inside c.args.self.now c.args.block c.args.at c.args.size c.self.invariant c.self.view_is c.requires.readable c.requires.range
      c.if-size-eq0.false),
)

-- ---- In the newest chunk

pub part_at_mut-requires-then-block-self : goal.part_at_mut-requires-then-block-self
part_at_mut-requires-then-block-self g c =
    let is = newest_range g.row.MIN_ALIGN c.self.inside c.args.self.now c.args.block c.args.at c.args.size c.self.invariant c.self.view_is c.requires.readable c.requires.range
    c.if-size-eq0.false c.if-block-self.true in
    let part = newest_part _ _ _ _ _ is.0 is.1 in
    record { low = omega (arith, part.ready, part.used); high = omega (arith, part.high, is.1) }

pub invariant_of-self-lent-then-block-self : goal.invariant_of-self-lent-then-block-self
invariant_of-self-lent-then-block-self g c w =
    let is = newest_range g.row.MIN_ALIGN c.self.inside c.args.self.now c.args.block c.args.at c.args.size c.self.invariant c.self.view_is c.requires.readable c.requires.range
    c.if-size-eq0.false c.if-block-self.true in
    (newest_lent _ _ _ _ _ w is.0 is.1).stored

pub returns-then-block-self : goal.returns-then-block-self
returns-then-block-self g c =
    let is = newest_range g.row.MIN_ALIGN c.self.inside c.args.self.now c.args.block c.args.at c.args.size c.self.invariant c.self.view_is c.requires.readable c.requires.range
    c.if-size-eq0.false c.if-block-self.true in (
      (refl, λ w. (newest_lent _ _ _ _ _ w is.0 is.1).view),
      record {
        writes_back = tt;
        value = c.part_at_mut-then-block-self.ensures.value ∙ newest_bytes _ _ _ _ _ is.0 is.1;
        writes = λ list. lent_writes _ _ _ c.args.block c.args.at c.args.size list _ _ c.self.invariant c.self.view_is c.requires.range
            (newest_lent _ _ _ _ _ list is.0 is.1);
      },
    )

-- ---- In an older one

pub bytes_mut-requires : goal.bytes_mut-requires
bytes_mut-requires g c = grind (arith, nat_tests, older_range, older_part)

pub invariant_of-self-lent-2 : goal.invariant_of-self-lent-2
invariant_of-self-lent-2 g c w =
    let is = older_range g.row.MIN_ALIGN c.self.inside c.args.self.now c.args.block c.args.at c.args.size c.self.invariant c.self.view_is c.requires.readable c.requires.range
    c.if-size-eq0.false c.if-block-self.false in
    (older_lent _ _ _ _ _ w is.0 is.1).stored

pub returns : goal.returns
returns g c =
    let is = older_range g.row.MIN_ALIGN c.self.inside c.args.self.now c.args.block c.args.at c.args.size c.self.invariant c.self.view_is c.requires.readable c.requires.range
    c.if-size-eq0.false c.if-block-self.false in (
      (refl, λ w. (older_lent _ _ _ _ _ w is.0 is.1).view),
      record {
        writes_back = tt;
        value = c.bytes_mut.ensures.value ∙ older_bytes _ _ _ _ _ is.0 is.1;
        writes = λ list. lent_writes _ _ _ c.args.block c.args.at c.args.size list _ _ c.self.invariant c.self.view_is c.requires.range
            (older_lent _ _ _ _ _ list is.0 is.1);
      },
    )
