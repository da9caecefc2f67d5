use Rattle.std.proofs.Common.{arith, rules}
use Rattle.arena_bits.proofs.ScanLemmas.{scan_over, scan_next}
use Rattle.arena_bits.proofs.ones.step.Goals as goal

pub returns-then-place-left-clause-scan : goal.returns-then-place-left-clause-scan
returns-then-place-left-clause-scan c =
    scan_over _ _ c.load-scan.result c.load-scan.ensures.scan (search rules) c.load-scan.ensures.last (omega arith)

pub returns-clause-scan : goal.returns-clause-scan
returns-clause-scan c = scan_next _ _ c.load-scan.result c.load-scan.ensures.scan (search rules) c.load-scan.ensures.last (omega arith)
