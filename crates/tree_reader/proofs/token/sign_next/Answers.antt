use Rattle.std.proofs.Common.{arith}
use Rattle.tree_reader.proofs.ByteLemmas.{front_next, front_some, sign_seen}
use Rattle.tree_reader.proofs.token.sign_next.Goals as goal

pub returns-clause-next : goal.returns-clause-next
returns-clause-next c =
    let begin = c.requires.begin in
    let front = sign_seen c.args.src.now c.args.here c.args.seen begin.within c.requires.digit c.requires.name c.requires.seen in
    let some = front_some c.args.src.now c.args.here begin.within in
    front_next c.args.src.now c.args.at c.args.here _ begin front some (omega (arith, begin.within))
