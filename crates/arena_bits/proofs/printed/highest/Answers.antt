use Rattle.std.proofs.Common.{◌≡◌, eqb, get_or, arith}
use Rattle.std.proofs.lemmas.Bool.Decides.{nat_tests}
use Rattle.arena_bits.specs.Printed.{highest}
use Rattle.arena_bits.proofs.PrintLemmas.{highest_is}
use Rattle.arena_bits.proofs.printed.highest.Goals as goal

pub returns-then-bytes-i-ne0-clause-value : goal.returns-then-bytes-i-ne0-clause-value
returns-then-bytes-i-ne0-clause-value c = grind (arith, nat_tests, eqb, get_or, highest_is)

pub loop-i-preserved : goal.loop-i-preserved
loop-i-preserved c = grind (arith, nat_tests, eqb, get_or, highest_is)

pub returns-clause-value : goal.returns-clause-value
unfolding highest
returns-clause-value c = let none : c.loop-i.i ≡ 0 = omega arith in rw none at c.loop-i.invariant
