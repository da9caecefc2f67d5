use Rattle.std.proofs.lemmas.Bool.Decides.{nat_tests}
use Rattle.std.proofs.Common.{◌+◌, ap, subst, arith}
use Rattle.arena_rules.specs.State.{IsValid}
use Rattle.arena_store.specs.Memory.{Memory, image}
use Rattle.arena_store.proofs.BytesLemmas.{length-bytes, no_bytes, written_none}
use Rattle.arena_core.proofs.BlockCallLemmas.{writes_block}
use Rattle.arena_core.proofs.PartLemmas.{block_range, range_fits, IsMoved, copied}
use Rattle.arena_core.proofs.arena.Arena.copy_between.Given.{Over}
use Rattle.arena_core.proofs.arena.Arena.copy_between.Goals as goal

pub returns-then-size-eq0 : goal.returns-then-size-eq0
returns-then-size-eq0 g c = grind (arith, nat_tests, no_bytes, writes_block, written_none)

pub overflow_add-from : goal.overflow_add-from
overflow_add-from g c = omega (
  arith,
  range_fits _ _ _ _ _ (block_range g.row.MIN_ALIGN c.self.inside c.args.self.now c.args.source c.args.from c.args.size c.self.invariant c.self.view_is c.requires.source
      c.requires.source_range c.if-size-eq0.false),
)

pub overflow_add-to : goal.overflow_add-to
overflow_add-to g c = omega (
  arith,
  range_fits _ _ _ _ _ (block_range g.row.MIN_ALIGN c.self.inside c.args.self.now c.args.target c.args.to c.args.size c.self.invariant c.self.view_is c.requires.target
      c.requires.target_range c.if-size-eq0.false),
)

pub copy_bytes-requires-clause-source : goal.copy_bytes-requires-clause-source
copy_bytes-requires-clause-source g c = grind (arith, nat_tests, block_range)

pub copy_bytes-requires-clause-target : goal.copy_bytes-requires-clause-target
copy_bytes-requires-clause-target g c = grind (arith, nat_tests, block_range)

made : (g : Over) (c : goal.After-copy_bytes g)
    → IsMoved g.row.MIN_ALIGN c.self.inside c.args.self.now (c.args.source.addr + c.args.from) (c.args.target.addr + c.args.to) c.args.size
    c.copy_bytes.new.newest c.copy_bytes.new.older.items
made g c = copied _ _ _ _ _ _ _ _ (block_range g.row.MIN_ALIGN c.self.inside c.args.self.now c.args.source c.args.from c.args.size c.self.invariant c.self.view_is c.requires.source
    c.requires.source_range c.if-size-eq0.false)
    (block_range g.row.MIN_ALIGN c.self.inside c.args.self.now c.args.target c.args.to c.args.size c.self.invariant c.self.view_is c.requires.target
    c.requires.target_range c.if-size-eq0.false) c.copy_bytes.ensures

pub invariant_of-self : goal.invariant_of-self
invariant_of-self g c = (made g c).stored

pub returns : goal.returns
returns g c =
    let is = made g c in
    writes_block _ _ c.args.target c.args.to _ (subst (λ (w : Memory). IsValid w.state) c.self.view_is c.self.invariant.valid) is.state
    (ap (λ (w : Memory). w.statistics) c.self.view_is) is.image
    (omega (arith, length-bytes (image c.args.self.now) (c.args.source.addr + c.args.from) c.args.size, c.requires.target_range))
