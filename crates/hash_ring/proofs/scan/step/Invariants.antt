use Rattle.std.proofs.Common.{◌≤◌, ◌-◌, take}
use Rattle.hash_ring.specs.Walks.{front_of, AreFree, IsScan}
use Rattle.hash_ring.proofs.scan.step.Given as goal

abbrev pub invariant-groups : goal.invariant-groups
invariant-groups l =
    IsScan l.fn.slots (take l.fn.slots l.fn.bytes) (record { base = l.base; rest = l.rest })
    × (front_of l.fn.scan ≤ front_of (record { base = l.base; rest = l.rest }))
    × AreFree (take l.fn.slots l.fn.bytes) (front_of l.fn.scan) (front_of (record { base = l.base; rest = l.rest }))

abbrev pub decreases-groups : goal.decreases-groups
decreases-groups l = l.fn.slots - l.base
