use Rattle.example_collections.proofs.beside.put_beside.Goals as goal

pub returns-clause-others : goal.returns-clause-others
returns-clause-others g c = λ other held apart. c.map_frame_law.ensures _ _ _ _ other c.insert.ensures.frame held apart

pub returns-clause-costs : goal.returns-clause-costs
returns-clause-costs g c = c.costs_law.ensures.inserts _ _ _ _ _ _ _ c.insert.ensures
