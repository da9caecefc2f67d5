use Rattle.example_collections.specs.Texts.{IsRow, PushesRow}
use Rattle.example_collections.proofs.texts.row_of.Given as goal

abbrev pub invariant-loop-i : goal.invariant-loop-i
invariant-loop-i g l = record {
  row : IsRow l.fn.a l.a l.byte l._i l.text;
  pushes : PushesRow l.fn.a l.a l.byte l._i l.text;
}
