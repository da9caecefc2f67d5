use Rattle.std.proofs.Common.{◌≡◌, ◌++◌, drop}
use Rattle.arena_drawing.specs.Text.{filled}
use Rattle.arena_drawing.proofs.text.put.Given as goal

abbrev pub invariant-loop-byte : goal.invariant-loop-byte
invariant-loop-byte l =
    l.out.items ++ filled (drop l.byte-index l.template) l.left ≡ l.initial.out.items ++ filled l.template l.numbers
