use Rattle.std.proofs.Common.{arith, ◌-◌}
use Rattle.arena_vec.proofs.VecLemmas.{shortened}
use Rattle.arena_vec.proofs.vec.Vec.pop.Goals as goal

pub returns-clause-becomes : goal.returns-clause-becomes
returns-clause-becomes g c =
    shortened g.T.Item c.args.a.now c.args.self.now (c.args.self.now.raw.len - 1) c.requires.held (omega arith)
