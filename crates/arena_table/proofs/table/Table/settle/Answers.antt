use Rattle.arena_table.specs.Contents.{kind}
use Rattle.arena_table.specs.Tables.{pair_hash}
use Rattle.arena_table.proofs.table.Table.settle.Goals as goal

pub put-requires-clause-spot : goal.put-requires-clause-spot
put-requires-clause-spot g c =
    let k = kind g.K.Item g.K.ArenaKey.key g.V.Item g.S.KeyHasher.hash_of in
    let spot = rw c.read.ensures at c.spot_for-at.ensures in
    spot (pair_hash k c.args.a.now.memory c.args.hasher.now) c.requires.held.table c.requires.free
