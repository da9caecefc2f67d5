use Rattle.std.proofs.lemmas.Bool.Decides.{nat_tests}
use Rattle.std.proofs.Common.{arith}
use Rattle.std.proofs.Math.Nat.{mul-le-mul_left}
use Rattle.arena_chunks.proofs.Layers.{edits_by, length-bytes}
use Rattle.arena_items.proofs.Layers.{wrote_same, written_held}
use Rattle.arena_table.proofs.FreeLemmas.{freed-slots}
use Rattle.arena_table.proofs.table.Table.free_all.Goals as goal

pub write_with-requires-clause-range : goal.write_with-requires-clause-range
write_with-requires-clause-range g c = grind (arith, nat_tests, mul-le-mul_left)

pub returns-clause-free : goal.returns-clause-free
returns-clause-free g c = grind (arith, nat_tests, edits_by, freed-slots, length-bytes)

pub returns-clause-places : goal.returns-clause-places
returns-clause-places g c = wrote_same _ _ c.args.self.block 0 _ c.write_with.ensures.edits.writes c.write_with.ensures.source

pub returns-clause-held : goal.returns-clause-held
returns-clause-held g c = grind (arith, nat_tests, written_held)

pub returns-clause-frame : goal.returns-clause-frame
returns-clause-frame g c = c.write_with.ensures.edits.writes.frame
