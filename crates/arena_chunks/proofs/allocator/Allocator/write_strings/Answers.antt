use Rattle.std.proofs.lemmas.Bool.Decides.{nat_tests}
use Rattle.std.proofs.Common.{rules, arith}
use Rattle.std.proofs.lemmas.List.Folds.{length-flat_map-take}
use Rattle.arena_core.proofs.LayerLemmas.{writes_nothing}
use Rattle.arena_chunks.proofs.TextLemmas.{one_more_text}
use Rattle.arena_chunks.proofs.allocator.Allocator.write_strings.Goals as goal

pub loop-s-init : goal.loop-s-init
loop-s-init g c = grind (arith, nat_tests, writes_nothing)

pub write-requires-clause-readable : goal.write-requires-clause-readable
write-requires-clause-readable g c = search rules

pub write-requires-clause-range : goal.write-requires-clause-range
write-requires-clause-range g c = grind (arith, nat_tests, length-flat_map-take, rules)

pub overflow_add-at : goal.overflow_add-at
overflow_add-at g c = let more = length-flat_map-take g.T.AsStr.text c.args.strings.now c.loop-s.s-index c.s-item.result in search rules

pub loop-s-preserved : goal.loop-s-preserved
loop-s-preserved g c = let one = one_more_text g.T.AsStr.text c.args.strings.now c.loop-s.s-index c.s-item.result c.args.self.now.memory
    c.loop-s.self.memory c.write.new.self.memory c.args.block c.loop-s.at in search rules
