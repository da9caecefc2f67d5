use Rattle.std.proofs.Common.{arith}
use Rattle.example_collections.proofs.texts.rule_of.Goals as goal

pub returns-in_err-push_ascii_byte_repeat : goal.returns-in_err-push_ascii_byte_repeat
returns-in_err-push_ascii_byte_repeat g c =
    let made = c.in_ok-text.ensures in
    absurd (c.within_room.ensures.never _ _ _ _ _ _ _ (omega (arith, made.len, made.cap)) c.in_err-push_ascii_byte_repeat.ensures)

pub returns : goal.returns
returns g c =
    let made = c.in_ok-text.ensures in
    c.within_room.ensures.made _ _ _ _ _ _ _ _ _ made (omega (arith, made.len, made.cap))
    (rw made.bytes_are at c.in_ok-push_ascii_byte_repeat.ensures)
