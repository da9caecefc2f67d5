use Rattle.std.proofs.Common.{rules}
use Rattle.std.proofs.lemmas.Map.Made.{filter_same_pairs}
use Rattle.arena_rules.specs.State.{is_place_used}
use Rattle.plain_machine.proofs.LeftLemmas.{tree_used}
use Rattle.plain_machine.proofs.names.Names+Place.keep_used.Goals as goal

pub returns : goal.returns
returns c =
    let left = filter_same_pairs _ (λ e. is_place_used c.args.state.now e.1) _ (λ k v b w f' t. search rules) _ _ c.retain.ensures.filtered
    in
    rw (← c.self.view_is) (tree_used c.self.inside.values c.retain.new.self
    (is_place_used c.args.state.now) c.retain.ensures.was_ordered left)
