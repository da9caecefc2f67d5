use Rattle.std.proofs.Common.{refl, ap, length, arith}
use Rattle.line_parts.proofs.HexLemmas.{read_more}
use Rattle.line_parts.proofs.hex.pairs.Goals as goal

pub pairs-init : goal.pairs-init
pairs-init c = rw c.in_ok-items.ensures.items (record { text = refl; fit = tt })

pub pairs-smaller : goal.pairs-smaller
pairs-smaller c = omega (arith, ap length c.in-Some.ensures.1)

pub pairs-preserved : goal.pairs-preserved
pairs-preserved c = rw c.in_ok-push.ensures.items (read_more c.args.bytes.now c.pairs.items.items c.pairs.rest.now c.in-Some.byte
    c.in-Some.more.now c.pairs.invariant c.in-Some.ensures)
