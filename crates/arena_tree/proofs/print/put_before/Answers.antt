use Rattle.arena_tree.proofs.print.put_before.Goals as goal

pub read-requires : goal.read-requires
read-requires g c = c.requires c.in-Let.is
