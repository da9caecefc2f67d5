use Rattle.std.proofs.Common.{ap, subst}
use Rattle.arena_region.specs.Bytes.{Bytes}
use Rattle.arena_pool.specs.Kinds.{HasRegions}
use Rattle.arena_pool.proofs.KindLemmas.{region_is_new}
use Rattle.arena_pool.proofs.stock.new_arena.Goals as goal

pub returns-in_ok-region-in-FixedSize-clause-new : goal.returns-in_ok-region-in-FixedSize-clause-new
returns-in_ok-region-in-FixedSize-clause-new g c =
    let regions = subst HasRegions c.in-FixedSize.is c.requires in
    let zeros = ap (λ (r : Bytes). r.items) c.in_ok-region-in-FixedSize.ensures in
    rw c.in-FixedSize.is (region_is_new _ _ _ _ regions zeros c.from_region.ensures c.make-in-FixedSize.ensures)
