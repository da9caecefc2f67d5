use Rattle.std.proofs.lemmas.Bool.Decides.{nat_tests}
use Rattle.std.proofs.Common.{arith}
use Rattle.arena_store.proofs.BytesLemmas.{length-bytes}
use Rattle.arena_core.proofs.BlockCallLemmas.{edits_by}
use Rattle.arena_core.proofs.arena.Arena.fill.Goals as goal

pub returns : goal.returns
returns g c = grind (arith, nat_tests, length-bytes, edits_by)
