use Rattle.std.proofs.lemmas.Bool.Decides.{nat_tests}
use Rattle.std.proofs.Common.{◌≡◌, ◌∙◌, sym, arith, append-nil}
use Rattle.arena_bits.specs.Printed.{digits}
use Rattle.arena_bits.proofs.PrintLemmas.{digit_more}
use Rattle.arena_bits.proofs.printed.push_digits.Goals as goal

pub loop-place-preserved : goal.loop-place-preserved
loop-place-preserved c = grind (arith, nat_tests, digit_more)

pub returns : goal.returns
unfolding digits
returns c = let none : c.loop-place.place ≡ 0 = omega arith in sym (append-nil c.loop-place.text) ∙ rw none at c.loop-place.invariant
