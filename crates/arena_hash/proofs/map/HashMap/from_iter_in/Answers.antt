use Rattle.std.proofs.Common.{[], ◌∷◌}
use Rattle.std.proofs.lemmas.Result.{err_from_is_err_and}
use Rattle.arena_chunks.proofs.Layers.{frame_keeps}
use Rattle.arena_hash.proofs.CollectLemmas.{collecting-none, collecting-more, collecting-refused, collecting-all}
use Rattle.arena_hash.proofs.map.HashMap.from_iter_in.Goals as goal

pub loop-pair-init : goal.loop-pair-init
loop-pair-init g c = (
  collecting-none _ g.I.Iterator.next_gives _ _ _ c.new_in-map.ensures.map,
  c.new_in-map.ensures.hasher,
)

pub insert-requires-clause-text : goal.insert-requires-clause-text
insert-requires-clause-text g c =
    let so_far = c.loop-pair.invariant.0 in
    let readable = c.requires.texts so_far.pairs c.loop-pair.iter c.next.new.self c.in-Some.pair so_far.yields c.in-Some.ensures.steps in
    (frame_keeps _ _ [] (c.loop-pair.map.table.block ∷ []) (g.K.ArenaKey.key.text c.in-Some.pair.0) so_far.frame readable tt).readable

pub insert-requires-clause-apart : goal.insert-requires-clause-apart
insert-requires-clause-apart g c =
    let so_far = c.loop-pair.invariant.0 in
    let readable = c.requires.texts so_far.pairs c.loop-pair.iter c.next.new.self c.in-Some.pair so_far.yields c.in-Some.ensures.steps in
    (frame_keeps _ _ [] (c.loop-pair.map.table.block ∷ []) (g.K.ArenaKey.key.text c.in-Some.pair.0) so_far.frame readable tt).apart.0

pub loop-pair-preserved : goal.loop-pair-preserved
loop-pair-preserved g c = (
  collecting-more _ g.I.Iterator.next_gives _ _ _ _ _ _ _ _ c.in-Some.pair c.loop-pair.invariant.0 c.in-Some.ensures.steps
      (c.requires.texts c.loop-pair.invariant.0.pairs c.loop-pair.iter c.next.new.self c.in-Some.pair c.loop-pair.invariant.0.yields
      c.in-Some.ensures.steps) _ c.in_ok-insert.ensures,
  rw c.in_ok-insert.ensures.hasher c.loop-pair.invariant.1,
)

pub returns-in_err-insert-clause-refused : goal.returns-in_err-insert-clause-refused
returns-in_err-insert-clause-refused g c =
    let p = err_from_is_err_and c.from_residual.result c.from_residual.ensures.1 in
    rw (p.1, p.2)
    (collecting-refused _ g.I.Iterator.next_gives _ _ c.next.new.self _ _ _ _ _ c.in-Some.pair c.loop-pair.invariant.0 c.in-Some.ensures.steps
    _ c.in_err-insert.ensures)

pub returns-clause-collects : goal.returns-clause-collects
returns-clause-collects g c =
    collecting-all _ _ _ _ c.next.new.self _ _ _ c.loop-pair.invariant.0 (rw c.in_default.is at c.next.ensures.steps)
