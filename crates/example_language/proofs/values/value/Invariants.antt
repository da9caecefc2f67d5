use Rattle.std.proofs.Common.{◌≡◌, [], drop, vec_len}
use Rattle.arena.specs.Vecs.{vec_list}
use Rattle.example_language.specs.Trees.{node_item}
use Rattle.example_language.specs.Values.{values_after}
use Rattle.example_language.proofs.values.value.Given as goal

abbrev pub invariant-each : goal.invariant-each
invariant-each g l = record {
  count : vec_len l.values ≡ l.i;
  values : values_after l.names l.values.items (drop l.i (vec_list node_item l.a.memory l.nodes))
      ≡ values_after l.names [] (vec_list node_item l.a.memory l.nodes);
}
