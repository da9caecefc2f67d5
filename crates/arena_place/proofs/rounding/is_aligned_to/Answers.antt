use Rattle.std.proofs.Common.{arith}
use Rattle.std.proofs.lemmas.Bool.Decides.{nat_tests}
use Rattle.arena_rules.proofs.RoundingLemmas.{mask_mod, power_positive}
use Rattle.arena_place.proofs.rounding.is_aligned_to.Goals as goal

pub overflow_sub-result : goal.overflow_sub-result
overflow_sub-result c = power_positive c.args.align c.requires

pub returns : goal.returns
returns c =
    let masked = mask_mod c.args.n c.args.align c.requires in
    (λ t. grind (arith, nat_tests, masked), λ h. grind (arith, nat_tests, masked))
