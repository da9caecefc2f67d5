use Rattle.std.proofs.Common.{refl, ◌∷◌}
use Rattle.tree_rules.specs.Reading.{state}
use Rattle.tree_rules.specs.declared.machine.Open.TheVariants.{Paren}
use Rattle.tree_rules.specs.declared.machine.Mode.TheVariants.{BehindFactor}
use Rattle.arena_tree.proofs.TokenLemmas.{only_close, none_at}
use Rattle.arena_tree.proofs.look.close_at.Goals as goal

pub returns-in_err-l-clause-none : goal.returns-in_err-l-clause-none
returns-in_err-l-clause-none c = none_at _ _ (λ opens. state BehindFactor (Paren ∷ opens)) (λ x. refl) c.in_err-l.ensures.none _

pub returns-in_default : goal.returns-in_default
returns-in_default c = record { some = tt; none = only_close c.in_ok-l.ensures.some c.requires.stop c.in_default.not-RightParen }
