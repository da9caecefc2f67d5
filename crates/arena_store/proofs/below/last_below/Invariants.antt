use Rattle.arena_store.proofs.below.last_below.Given as goal

abbrev pub ghosts-split_of : goal.ghosts-split_of
ghosts-split_of a = record { name = a.blank.name; parts = a.blank.parts }
