use Rattle.arena_items.proofs.laws.meaning_law.Goals as goal

pub returns : goal.returns
returns g c = g.V.InArena.same_meaning
