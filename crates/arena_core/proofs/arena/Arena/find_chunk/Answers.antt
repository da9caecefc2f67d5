use Rattle.std.proofs.Common.{◌-◌, ◌<◌, false, arith, length, ne_eqb}
use Rattle.std.proofs.lemmas.Bool.Decides.{nat_tests}
use Rattle.arena_core.proofs.FindingLemmas.{older_number, newest_number}
use Rattle.arena_core.proofs.arena.Arena.find_chunk.Goals as goal

pub returns-then-addr-self-clause-number : goal.returns-then-addr-self-clause-number
returns-then-addr-self-clause-number g c =
    older_number g.row.MIN_ALIGN c.self.inside c.args.self.now c.args.addr _ c.self.invariant c.self.view_is c.if-addr-self.true
    c.number_of.ensures.number

pub returns-then-addr-self-2-clause-number : goal.returns-then-addr-self-2-clause-number
returns-then-addr-self-2-clause-number g c =
    let past : length c.self.inside.newest.bytes.items < c.args.addr - c.self.inside.newest.base =
    omega (arith, c.if-addr-self-2.true, c.size.ensures) in
    newest_number g.row.MIN_ALIGN c.self.inside c.args.self.now c.args.addr false c.self.invariant c.self.view_is
    (omega (arith, c.if-addr-self.false)) (ne_eqb _ _ c.if-self-eq-NOWHERE.false) (grind (arith, nat_tests))
