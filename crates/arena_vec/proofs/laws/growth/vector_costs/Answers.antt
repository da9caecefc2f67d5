use Rattle.arena_vec.proofs.CreditLemmas.{asks, fits_then}
use Rattle.arena_vec.proofs.laws.growth.vector_costs.Goals as goal

pub returns-clause-fits : goal.returns-clause-fits
returns-clause-fits g c = λ old new v w required list result few bytes grows.
    fits_then (λ _. w.raw.block) g.T.Item.SIZE g.T.Item.ALIGN v.raw.cap required old new v.raw.block result few bytes grows.made

pub returns-clause-asks : goal.returns-clause-asks
returns-clause-asks g c = λ old new v w n list x held some many few grows.
    rw (grows.len, many, grows.cap) (asks g.T.Item.SIZE v.raw.cap v.raw.len n held.within some few)
