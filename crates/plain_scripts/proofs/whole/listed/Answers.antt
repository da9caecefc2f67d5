use Rattle.std.proofs.lemmas.Bool.Decides.{nat_tests}
use Rattle.std.proofs.Common.{arith, append-nil}
use Rattle.name_map.proofs.MapLemmas.{tree_entries}
use Rattle.plain_scripts.proofs.whole.listed.Goals as goal

pub returns : goal.returns
returns c = grind (arith, nat_tests, tree_entries, append-nil)
