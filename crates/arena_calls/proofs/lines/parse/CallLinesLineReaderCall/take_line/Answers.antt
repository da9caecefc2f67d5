use Rattle.std.proofs.Common.{Some, None}
use Rattle.arena_calls.proofs.LineLemmas.{takes_empty, takes_call, refuses}
use Rattle.arena_calls.proofs.lines.parse.CallLinesLineReaderCall.take_line.Goals as goal

pub returns-then-at_line_end : goal.returns-then-at_line_end
returns-then-at_line_end c = takes_empty c.args.bytes.now c.args.read.now.items c.if-at_line_end.ensures

pub returns-in_default : goal.returns-in_default
returns-in_default c =
    refuses c.args.bytes.now c.args.read.now.items None c.if-at_line_end.ensures (rw c.in_default.is at c.in_ok-call.ensures) tt

pub returns-then-not-at_line_end : goal.returns-then-not-at_line_end
returns-then-not-at_line_end c =
    refuses c.args.bytes.now c.args.read.now.items (Some (c.in-Some.call, c.in-Some.behind.now)) c.if-at_line_end.ensures
    (rw c.in-Some.is at c.in_ok-call.ensures) c.if-not-at_line_end.ensures

pub returns : goal.returns
returns c = takes_call c.args.bytes.now c.in-Some.behind.now c.in-Some.call c.args.read.now.items _
    (rw c.in-Some.is at c.in_ok-call.ensures) c.if-not-at_line_end.ensures c.in_ok-push.ensures.items
