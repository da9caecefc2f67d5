use Rattle.std.proofs.Common.{◌≡◌, ◌++◌, map}
use Rattle.std.specs.Vec.Iter.{into_iter_items}
use Rattle.arena_lint.specs.All.{linted}
use Rattle.arena_lint.proofs.parts.with_names.Given as goal

abbrev pub invariant-loop-served : goal.invariant-loop-served
invariant-loop-served g l = l.each.items ++ map linted (into_iter_items l.served-iterator) ≡ map linted l.fn.all.items
