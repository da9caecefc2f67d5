use Rattle.std.proofs.Common.{◌≡◌, take, sum_by, length}
use Rattle.arena_store.specs.declared.table.Kept.{Kept}
use Rattle.arena_store.proofs.table.Table.size.Given as goal

abbrev pub invariant-loop-kept : goal.invariant-loop-kept
invariant-loop-kept l = l.size ≡ sum_by (λ (k : Kept). length k.bytes.items) (take l.kept-index l.kept-items)
