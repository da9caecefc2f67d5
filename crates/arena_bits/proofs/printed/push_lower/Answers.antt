use Rattle.std.proofs.lemmas.Bool.Decides.{nat_tests}
use Rattle.std.proofs.Common.{◌≡◌, ◌∙◌, sym, arith, append-nil}
use Rattle.arena_bits.specs.Printed.{lower}
use Rattle.arena_bits.proofs.PrintLemmas.{byte_digits, lower_more}
use Rattle.arena_bits.proofs.printed.push_lower.Goals as goal

pub loop-i-preserved : goal.loop-i-preserved
loop-i-preserved c = grind (arith, nat_tests, byte_digits, lower_more)

pub returns : goal.returns
unfolding lower
returns c = let none : c.loop-i.i ≡ 0 = omega arith in sym (append-nil c.loop-i.text) ∙ rw none at c.loop-i.invariant
