use Rattle.std.proofs.Common.{[]}
use Rattle.arena_chunks.proofs.Layers.{all_from_none}
use Rattle.arena_ast.proofs.laws.beside_new.Goals as goal

pub returns : goal.returns
returns g c old new v w held is =
    let stays = c.frame_law.ensures old new [] (g.W.InArena.footprint new w) v is.frame held (all_from_none _) in
    record { first = stays.held; second = is.held; apart = stays.apart }
