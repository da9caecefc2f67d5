use Rattle.std.proofs.Common.{◌≡◌, ◌+◌, ◌++◌, length}
use Rattle.std.specs.Vec.Iter.{into_iter_items}
use Rattle.arena_program.specs.PoolEnds.{starved_of}
use Rattle.arena_program.specs.Rendering.{joined, text_from, outcome_text, rendered_text}
use Rattle.arena_program.proofs.printout.join.Given as goal

abbrev pub invariant-loop-served : goal.invariant-loop-served
invariant-loop-served g l = record {
  text : joined l.texts.items ++ text_from (outcome_text (rendered_text g.O.Render.text)) l.i (into_iter_items l.served-iterator)
      ≡ text_from (outcome_text (rendered_text g.O.Render.text)) 0 l.fn.all.items;
  starved : l.starved.items ++ starved_of (λ s. s.starved) l.i (into_iter_items l.served-iterator)
      ≡ starved_of (λ s. s.starved) 0 l.fn.all.items;
  count : l.i + length (into_iter_items l.served-iterator) ≡ length l.fn.all.items;
}
