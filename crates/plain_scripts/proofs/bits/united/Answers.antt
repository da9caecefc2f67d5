use Rattle.std.proofs.lemmas.Bool.Decides.{nat_tests}
use Rattle.std.proofs.Common.{arith}
use Rattle.name_map.proofs.MapLemmas.{tree_entries}
use Rattle.plain_scripts.proofs.bits.united.Goals as goal

pub returns : goal.returns
returns c = grind (arith, nat_tests, tree_entries)
