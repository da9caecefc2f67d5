use Rattle.std.proofs.Common.{rules, subst}
use Rattle.std.proofs.lemmas.Fn.{dedup_same}
use Rattle.arena_vec.specs.Changes.{Becomes}
use Rattle.arena_vec.proofs.vec.Vec.dedup.Goals as goal

pub returns : goal.returns
returns g c =
    let left = c.dedup_by.ensures.becomes in
    subst (λ l. Becomes g.T.Item c.args.a.now c.dedup_by.new.a c.args.self.now l c.dedup_by.new.self)
    (dedup_same _ g.T.PartialEq.eq _ (λ x y b f' x' y' k. search rules) _ _ left.1) left.2
