use Rattle.std.proofs.lemmas.Bool.Decides.{nat_tests}
use Rattle.std.proofs.Common.{arith}
use Rattle.arena_table.proofs.LayoutLemmas.{table-layout}
use Rattle.arena_table.proofs.table.Table.place.Goals as goal

pub of-layout-requires : goal.of-layout-requires
of-layout-requires g c = grind (arith, nat_tests, table-layout)
