use Rattle.arena_table.specs.Contents.{kind}
use Rattle.arena_hash.proofs.FrameLemmas.{map_stays}
use Rattle.arena_hash.proofs.laws.map_frame_law.Goals as goal

pub returns : goal.returns
returns g c = λ old new before after m frame held apart.
    map_stays (kind g.K.Item g.K.ArenaKey.key g.V.Item g.S.KeyHasher.hash_of) m frame held apart
