use Rattle.std.proofs.lemmas.Bool.Decides.{nat_tests}
use Rattle.std.proofs.Common.{arith}
use Rattle.arena_store.proofs.BytesLemmas.{length-bytes}
use Rattle.arena_core.proofs.arena.Arena.write.Goals as goal

pub edit-requires : goal.edit-requires
edit-requires g c = grind (arith, nat_tests, length-bytes)
