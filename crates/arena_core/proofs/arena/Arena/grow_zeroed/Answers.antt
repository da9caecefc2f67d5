use Rattle.std.proofs.lemmas.Bool.Decides.{nat_tests}
use Rattle.std.proofs.Common.{arith}
use Rattle.arena_core.proofs.BlockCallLemmas.{wrote_fill, resizes_written}
use Rattle.arena_core.proofs.arena.Arena.grow_zeroed.Goals as goal

pub returns-clause-grown : goal.returns-clause-grown
returns-clause-grown g c = resizes_written _ _ c.grow.new.self c.fill.new.self _ _ c.args.block _ _ c.in_ok-grown.grown c.args.block.size
    _ c.in_ok-grown.ensures c.fill.ensures (omega arith)

pub returns-clause-zeros : goal.returns-clause-zeros
returns-clause-zeros g c = grind (arith, nat_tests, wrote_fill)
