use Rattle.arena_bits.specs.Bits.{bits_of}
use Rattle.arena_bits.specs.Walks.{words_in}
use Rattle.arena_bits.proofs.ScanLemmas.{walk_yields}
use Rattle.arena_bits.proofs.ones.Ones.next.Goals as goal

pub returns-clause-gives : goal.returns-clause-gives
returns-clause-gives g c =
    let walk = c.self.inside in
    rw (← c.self.view_is)
    (walk_yields (bits_of (words_in walk.bytes.now)) walk.scan.front walk.capacity c.step-bit.result.0 c.step-bit.result.1.front
    c.step-bit.ensures.front c.step-bit.ensures.first)
