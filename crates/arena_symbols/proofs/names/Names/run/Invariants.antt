use Rattle.std.proofs.Common.{take}
use Rattle.arena_symbols.specs.Serving.{Ran}
use Rattle.arena_symbols.proofs.names.Names.run.Given as goal

abbrev pub invariant-loop-call : goal.invariant-loop-call
invariant-loop-call g l =
    Ran l.fn.a l.a l.fn.self l.self (take l.call-index l.calls) l.fn.replies.items l.replies.items
