use Rattle.std.proofs.Common.{rules}
use Rattle.arena_core.proofs.StoredLemmas.{emptied_stored}
use Rattle.arena_core.proofs.arena.Arena.reset.Goals as goal

pub invariant_of-self : goal.invariant_of-self
invariant_of-self g c = emptied_stored g.row.MIN_ALIGN c.self.inside _ _ _ c.self.invariant c.saturating_add-self-inside.ensures
    c.size.ensures (search rules)

pub returns-clause-valid : goal.returns-clause-valid
returns-clause-valid g c =
    let done = emptied_stored g.row.MIN_ALIGN c.self.inside c.saturating_add-self-inside.result c.size.result c.clear.new.self.items
    c.self.invariant c.saturating_add-self-inside.ensures c.size.ensures (search rules) in
    done.valid
