use Rattle.arena_store.proofs.below.base.Given as goal

abbrev pub ghosts-base_of : goal.ghosts-base_of
ghosts-base_of a = record { name = a.blank.name; parts = a.blank.parts }
