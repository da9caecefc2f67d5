use Rattle.std.proofs.lemmas.Bool.Decides.{nat_tests}
use Rattle.std.proofs.Common.{arith, refl}
use Rattle.tree_rules.specs.Reading.{state}
use Rattle.tree_rules.specs.declared.machine.Mode.TheVariants.{AtName}
use Rattle.arena_tree.proofs.TokenLemmas.{only_name, none_at}
use Rattle.arena_tree.proofs.begin.name_at.Goals as goal

pub returns-in_err-l-clause-none : goal.returns-in_err-l-clause-none
returns-in_err-l-clause-none c = none_at _ _ (state AtName) (λ x. refl) c.in_err-l.ensures.none _

pub returns-in_default : goal.returns-in_default
returns-in_default c = grind (arith, nat_tests, only_name)
