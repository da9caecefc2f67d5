use Rattle.std.proofs.Common.{arith}
use Rattle.std.proofs.lemmas.Bool.Decides.{nat_tests}
use Rattle.line_parts.proofs.HexLemmas.{hex_some}
use Rattle.line_parts.proofs.hex.hex_bytes.Goals as goal

pub returns-in-Ok : goal.returns-in-Ok
returns-in-Ok c =
    let e = c.in_ok-items.ensures in
    rw c.in-Ok.ensures.value (hex_some c.args.bytes.now c.in_ok-items.items.items c.in_ok-items.rest.now c.in_default.ensures e.there e.fit
    e.all (λ none. grind (arith, nat_tests)))
