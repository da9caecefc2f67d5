use Rattle.std.proofs.Common.{sym}
use Rattle.arena_chunks.proofs.Layers.{all_from_none}
use Rattle.arena_items.proofs.FootprintLemmas.{back_readable, back_agree}
use Rattle.arena_items.proofs.laws.back_law.Goals as goal

pub returns-clause-readable : goal.returns-clause-readable
returns-clause-readable g c = λ old new v back held readable.
    let kind = g.V.InArena in
    let agree = back_agree old new (g.V.InArena.footprint old v) back readable in
    let same = kind.same_footprint old new v agree in
    record {
      held = kind.held_again old new v held agree readable;
      footprint = sym same;
      means = sym (kind.same_meaning old new v agree);
      apart = all_from_none (g.V.InArena.footprint new v);
    }

pub returns-clause-marked : goal.returns-clause-marked
returns-clause-marked g c = λ start old new v back stays held at.
    let blocks = g.V.InArena.footprint old v in
    let readable = back_readable start old new back stays blocks at (g.V.InArena.readable old v held) in
    returns-clause-readable g c old new v back held readable
