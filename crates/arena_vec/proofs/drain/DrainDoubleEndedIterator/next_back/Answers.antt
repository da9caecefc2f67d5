use Rattle.std.proofs.Common.{rules, arith, refl}
use Rattle.arena_items.specs.Values.{bytes_of}
use Rattle.raw_vec.proofs.Windows.{left_last_at}
use Rattle.arena_vec.proofs.drain.DrainDoubleEndedIterator.next_back.Goals as goal

pub returns-clause-steps : goal.returns-clause-steps
returns-clause-steps g c =
    let d = c.args.self.now in (
      left_last_at g.T.Item.SIZE g.T.Item.decoded d.vec.now.raw.len d.front d.back
          (bytes_of d.arena.now.memory d.vec.now.raw.block) c.get-item.result
          (omega (arith, c.requires.front)) c.requires.back c.get-item.ensures,
      record { drains = search rules; same_vec = refl; same_arena = refl; vec = refl; arena = refl; start = refl; end = refl },
    )
