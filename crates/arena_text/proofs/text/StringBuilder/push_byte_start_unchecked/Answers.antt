use Rattle.std.proofs.Common.{arith}
use Rattle.arena_text.proofs.TextLemmas.{pushed_below}
use Rattle.arena_text.proofs.text.StringBuilder.push_byte_start_unchecked.Goals as goal

pub returns : goal.returns
returns g c =
    let room = c.in_ok-self.ensures in
    let moved = c.move_within.ensures in
    let put = c.write_piece.ensures in
    pushed_below c.args.a.now c.roomy.new.a c.args.self.now _ c.in_ok-self.field-0 room.made room.grown c.move_within.new.self
    c.write_piece.new.a c.args.byte (omega (arith, room.enough, room.grown.len)) moved.writes moved.source put.writes put.source
