use Rattle.std.proofs.Common.{arith}
use Rattle.arena_vec.proofs.VecLemmas.{becomes}
use Rattle.arena_vec.proofs.drain_filter.DrainFilter.finish.Goals as goal

pub returns-clause-becomes : goal.returns-clause-becomes
returns-clause-becomes g c =
    let rest = c.drop_rest-vec.ensures in
    let held = c.requires.held in (
      rest.list.0,
      rest.list.1,
      becomes g.T.Item c.args.self.arena.now c.drop_rest-vec.new.a c.args.self.vec.now c.drop_rest-vec.result _
          held (omega (arith, rest.fewer, held.within)) rest.places rest.frame rest.list.2,
    )
