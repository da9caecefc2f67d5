use Rattle.std.proofs.Common.{arith}
use Rattle.arena_text.proofs.TextLemmas.{pushed}
use Rattle.arena_text.proofs.text.StringBuilder.put.Goals as goal

pub returns : goal.returns
returns g c =
    let bytes = g.P.Piece.bytes c.args.piece.now in
    let room = rw c.len-n.ensures at c.in_ok-self.ensures in
    let put = c.write_piece.ensures in
    rw c.len-n.ensures (pushed c.args.a.now c.roomy.new.a _ _ _ room.made room.grown c.write_piece.new.a _
    (omega (arith, room.enough, room.grown.len)) put.writes put.source)
