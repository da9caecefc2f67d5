use Rattle.std.proofs.Common.{◌≡◌, take, sum_by}
use Rattle.arena_store.specs.declared.table.Kept.{Kept}
use Rattle.arena_store.proofs.table.Table.used.Given as goal

abbrev pub invariant-loop-kept : goal.invariant-loop-kept
invariant-loop-kept l = l.used ≡ sum_by (λ (k : Kept). k.used) (take l.kept-index l.kept-items)
