use Rattle.std.proofs.Common.{◌≡◌, ◌-◌, ◌^◌, length, take}
use Rattle.std.specs.Prelude.{min}
use Rattle.std.specs.List.{flat_map}
use Rattle.raw_vec.proofs.rows.count_all.Given as goal

abbrev pub invariant-loop-values : goal.invariant-loop-values
invariant-loop-values g l = l.n ≡ min (length (flat_map (λ s. s.now) (take l.values-index l.slices))) (2 ^ 64 - 1)
