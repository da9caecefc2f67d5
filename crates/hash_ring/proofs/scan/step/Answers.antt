use Rattle.std.proofs.lemmas.Bool.Decides.{nat_tests}
use Rattle.std.proofs.Common.{◌+◌, arith, take, refl}
use Rattle.std.proofs.lemmas.List.{length-take-le}
use Rattle.hash_ring.proofs.Scanning.{group-whole, scan-goes, scan-group, scan-step, taken-take}
use Rattle.hash_ring.proofs.scan.step.Goals as goal

pub taken_of_many-rest-requires : goal.taken_of_many-rest-requires
taken_of_many-rest-requires c = grind (arith, nat_tests, group-whole)

pub groups-preserved : goal.groups-preserved
groups-preserved c =
    scan-group c.args.slots (take c.args.slots c.args.bytes.now) c.args.scan (record { base = c.groups.base; rest = c.groups.rest })
    (record { base = c.groups.base + 64; rest = c.taken_of_many-rest.result }) c.groups.invariant.0 c.groups-test.true refl
    c.if-base-slots.false c.taken_of_many-rest.type_inv
    (taken-take c.args.slots c.args.bytes.now (c.groups.base + 64) c.taken_of_many-rest.result
    (group-whole c.args.slots c.groups.base c.requires.groups c.groups.invariant.0.aligned c.if-base-slots.false)
    c.taken_of_many-rest.ensures)
    c.groups.invariant.1 c.groups.invariant.2

pub returns-clause-scan : goal.returns-clause-scan
returns-clause-scan c =
    scan-step _ _ (record { base = c.groups.base; rest = c.groups.rest }) c.groups.invariant.0 (omega (arith, c.groups-test.false))
    c.groups.auto.rest-fits.fits

pub returns-clause-goes : goal.returns-clause-goes
returns-clause-goes c =
    scan-goes _ _ (record { base = c.groups.base; rest = c.groups.rest }) c.groups.invariant.0 (omega (arith, c.groups-test.false))
    c.groups.auto.rest-fits.fits c.args.scan c.groups.invariant.1 c.groups.invariant.2
    (omega (arith, length-take-le c.args.slots c.args.bytes.now c.requires.long))
