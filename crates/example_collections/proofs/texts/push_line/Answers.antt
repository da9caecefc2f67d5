use Rattle.std.proofs.Common.{arith, length-append}
use Rattle.arena_text.specs.Builders.{builder_bytes}
use Rattle.example_collections.proofs.texts.push_line.Goals as goal

pub returns-in_err-push_str : goal.returns-in_err-push_str
returns-in_err-push_str g c =
    let room = c.in_ok-reserve.ensures in
    absurd (c.within_room.ensures.never _ _ _ _ _ _ _ (omega (arith, room.enough, room.len)) c.in_err-push_str.ensures)

pub returns : goal.returns
returns g c =
    let room = c.in_ok-reserve.ensures in
    let within = c.within_room.ensures in
    let put = rw room.grows.bytes_are at c.in_ok-push_str.ensures in
    let both = within.grown _ _ _ _ _ _ _ _ _ _ _ room.grows (omega (arith, room.enough, room.len)) put in
    let old = builder_bytes c.args.a.now.memory c.args.text.now in
    within.grown _ _ _ _ _ _ _ _ _ _ _ both
    (omega (arith, both.len, both.cap, room.grows.len, room.grows.cap, room.len, room.enough, length-append old c.args.s.now))
    (rw both.bytes_are at c.push_ascii_byte.ensures)
