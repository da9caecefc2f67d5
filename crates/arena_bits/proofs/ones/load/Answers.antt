use Rattle.std.proofs.Common.{◌+◌, ◌∙◌, arith, rules}
use Rattle.arena_bits.specs.Walks.{words_in}
use Rattle.arena_bits.proofs.ScanLemmas.{scan_word, scan_skip}
use Rattle.arena_bits.proofs.ones.load.Goals as goal

pub words-preserved : goal.words-preserved
words-preserved c =
    let words = words_in c.args.bytes.now in
    let scan = c.words.invariant.0 in (
      scan_word words c.args.capacity (c.words.scan.base + 64) _ c.word_at.ensures (omega (arith, scan.aligned)) (omega arith),
      scan_skip words c.args.capacity c.words.scan scan (search rules) (omega arith) ∙ c.words.invariant.1,
    )
