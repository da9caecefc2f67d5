use Rattle.std.proofs.Common.{◌≡◌, ◌≤◌, ◌++◌, drop, length}
use Rattle.std.specs.FinMap.{entries, from_entries}
use Rattle.name_map.specs.Names.{named_with}
use Rattle.name_map.proofs.NameLemmas.{held}
use Rattle.name_map.proofs.names.Names.entries.Given as goal

-- what is listed so far, and then the entries from this name on
abbrev pub invariant-loop-at : goal.invariant-loop-at
invariant-loop-at g l = record {
  end : l.at-end ≡ length l.self-inside.first.items;
  within : l.at ≤ l.at-end;
  listed : l.all.items ++ entries (named_with l.at (drop l.at l.self-inside.first.items) (from_entries l.self-inside.others.entries))
      ≡ entries (held l.self-inside.first.items l.self-inside.others);
}

abbrev pub invariant-loop-name : goal.invariant-loop-name
invariant-loop-name g l = l.all.items ++ l.name-iterator ≡ l.initial.all.items ++ l.initial.name-iterator
