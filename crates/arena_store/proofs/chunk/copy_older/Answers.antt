use Rattle.std.proofs.lemmas.Bool.Decides.{nat_tests}
use Rattle.std.proofs.Common.{arith}
use Rattle.arena_store.proofs.TableLemmas.{part_length, length-part_in, first_has, others_have}
use Rattle.arena_store.proofs.chunk.copy_older.Goals as goal

pub copy_from_slice-requires : goal.copy_from_slice-requires
copy_from_slice-requires c = grind (arith, nat_tests, others_have, first_has, part_length, length-part_in)

pub copy_from_slice-requires-then-from-newest : goal.copy_from_slice-requires-then-from-newest
copy_from_slice-requires-then-from-newest c = grind (arith, nat_tests, first_has, others_have, length-part_in, part_length)
