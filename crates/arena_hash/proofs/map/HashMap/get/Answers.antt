use Rattle.arena_hash.proofs.map.HashMap.get.Goals as goal

pub returns : goal.returns
returns g c = rw c.content-wanted.ensures at c.get_by.ensures
