use Rattle.std.proofs.Common.{◌≡◌, ◌<◌, ℕ, None, length, get_or}
use Rattle.name_map.proofs.names.Names.clear.Given as goal

abbrev pub invariant-loop-at : goal.invariant-loop-at
invariant-loop-at g l = record {
  long : length l.self-inside.first.items ≡ length l.initial.self-inside.first.items;
  end : l.at-end ≡ length l.initial.self-inside.first.items;
  none : (k : ℕ) → k < l.at → get_or l.self-inside.first.items k None ≡ None;
}
