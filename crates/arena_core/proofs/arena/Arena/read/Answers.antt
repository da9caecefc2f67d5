use Rattle.std.proofs.lemmas.Bool.Decides.{nat_tests}
use Rattle.std.proofs.Common.{arith, sym}
use Rattle.arena_store.specs.Memory.{image}
use Rattle.arena_store.proofs.BytesLemmas.{no_bytes}
use Rattle.arena_core.proofs.PartLemmas.{whole_range, range_bytes}
use Rattle.arena_core.proofs.arena.Arena.read.Goals as goal

pub returns-then-block-eq0 : goal.returns-then-block-eq0
returns-then-block-eq0 g c = sym (no_bytes (image c.args.self.now) c.args.block.addr c.args.block.size c.if-block-eq0.true)

pub bytes_at-requires : goal.bytes_at-requires
bytes_at-requires g c = (whole_range g.row.MIN_ALIGN c.self.inside c.args.self.now c.args.block c.self.invariant c.self.view_is c.requires c.if-block-eq0.false).has

pub returns : goal.returns
returns g c = grind (arith, nat_tests, range_bytes, whole_range)
