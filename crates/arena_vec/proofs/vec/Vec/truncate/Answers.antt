use Rattle.std.proofs.Common.{arith, sym}
use Rattle.std.proofs.lemmas.List.{take_all}
use Rattle.arena_items.proofs.Layers.{length-elements}
use Rattle.arena_vec.proofs.VecLemmas.{shortened, untouched}
use Rattle.arena_vec.proofs.vec.Vec.truncate.Goals as goal

pub returns-then-len-self-clause-becomes : goal.returns-then-len-self-clause-becomes
returns-then-len-self-clause-becomes g c = λ a held. shortened g.T.Item a c.args.self.now c.args.len held (omega arith)

pub returns-else-len-self-clause-becomes : goal.returns-else-len-self-clause-becomes
returns-else-len-self-clause-becomes g c = λ a held.
    untouched g.T.Item a c.args.self.now _ held (sym (take_all c.args.len _ (omega (arith, length-elements {T = g.row.T.Denot}))))
