use Rattle.arena_hash.proofs.MapLemmas.{map-table}
use Rattle.arena_hash.proofs.map.HashMap.insert.Goals as goal

pub look-look-requires-clause-held : goal.look-look-requires-clause-held
look-look-requires-clause-held g c = map-table _ _ _ c.requires.held
