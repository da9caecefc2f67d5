use Rattle.std.proofs.Common.{List, ◌++◌, sym, subst}
use Rattle.arena_chunks.specs.Frame.{Frame}
use Rattle.arena_chunks.proofs.Layers.{frame_beside, frame_behind, all_from_none, all_from_both, all_apart}
use Rattle.arena_store.specs.declared.block.Block.{Block}
use Rattle.arena_chunks.specs.Frame.{AreAllApart}
use Rattle.std.proofs.Common.{[], ◌∷◌}
use Rattle.arena_items.proofs.laws.beside.beside_law.Goals as goal

turned : (bs cs : List Block) → AreAllApart bs cs → AreAllApart cs bs
turned [] cs apart = all_from_none cs
turned (b ∷ bs) cs apart = (all_from_both cs (b ∷ []) bs).1 (all_apart b cs apart.0, turned bs cs apart.1)

pub returns-clause-first : goal.returns-clause-first
returns-clause-first g c = λ old new v u w beside held frame.
    let one = g.V.InArena in
    let other = g.W.InArena in
    let blocks = g.V.InArena.footprint old v in
    let after = g.V.InArena.footprint new u in
    let rest = g.W.InArena.footprint old w in
    let stays = c.frame_law-2.ensures old new blocks after w frame beside.second (turned blocks rest beside.apart) in
    record {
      beside = record { first = held; second = stays.held; apart = turned (g.W.InArena.footprint new w) after stays.apart };
      means = stays.means;
      frame = subst (λ (bs : List Block). Frame old new (blocks ++ rest) (after ++ bs)) (sym stays.footprint)
          (frame_beside old new blocks after rest frame);
    }

pub returns-clause-second : goal.returns-clause-second
returns-clause-second g c = λ old new v w u beside held frame.
    let blocks = g.W.InArena.footprint old w in
    let after = g.W.InArena.footprint new u in
    let rest = g.V.InArena.footprint old v in
    let stays = c.frame_law.ensures old new blocks after v frame beside.first beside.apart in
    record {
      beside = record { first = stays.held; second = held; apart = stays.apart };
      means = stays.means;
      frame = subst (λ (bs : List Block). Frame old new (rest ++ blocks) (bs ++ after)) (sym stays.footprint)
          (frame_behind old new blocks after rest frame);
    }
