use Rattle.std.proofs.Common.{rules, arith, refl}
use Rattle.arena_items.specs.Values.{bytes_of}
use Rattle.raw_vec.proofs.Windows.{left_last_at}
use Rattle.arena_vec.proofs.splice.SpliceDoubleEndedIterator.next_back.Goals as goal

pub returns-clause-steps : goal.returns-clause-steps
returns-clause-steps g c =
    let s = c.args.self.now in
    let d = c.requires.drains in (
      left_last_at g.T.Item.SIZE g.T.Item.decoded s.vec.now.raw.len s.front s.back (bytes_of s.arena.now.memory s.vec.now.raw.block)
          c.get-item.result (omega (arith, d.front)) d.back c.get-item.ensures,
      record {
        splices = record { drains = search rules; callable = c.requires.callable; ends = c.requires.ends };
        same = record { drains = search rules; same_vec = refl; same_arena = refl; vec = refl; arena = refl; start = refl; end = refl };
        with = refl;
      },
    )
