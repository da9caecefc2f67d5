use Rattle.arena_hash.proofs.WalkLemmas.{map-lists, map-walk}
use Rattle.arena_hash.proofs.map.HashMap.iter.Goals as goal

pub invariant_of-result : goal.invariant_of-result
invariant_of-result g c =
    map-walk _ _ _ _ c.requires.keys_small c.requires.values_small c.requires.held c.read-bytes.ensures _ c.start.ensures.free
    c.start.ensures.scan

pub returns : goal.returns
returns g c =
    map-lists _ _ _ _ c.requires.keys_small c.requires.values_small c.requires.held c.read-bytes.ensures c.start.result c.start.ensures.free
