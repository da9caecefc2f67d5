use Rattle.std.proofs.Common.{rules, subst}
use Rattle.std.proofs.lemmas.Fn.{filter_same}
use Rattle.std.specs.Ordering.{is_le}
use Rattle.arena_vec.specs.Changes.{Becomes}
use Rattle.example_collections.proofs.taking.keep_from.Goals as goal

pub returns : goal.returns
returns g c =
    let kept = filter_same _ (λ x. is_le (g.T.Ord.cmp c.args.least x)) _ (λ x b f k. search rules) _ _ c.retain.ensures.becomes.1 in
    subst (λ list. Becomes g.T.Item c.args.a.now c.retain.new.a c.args.vec.now list c.retain.new.self) kept c.retain.ensures.becomes.2
