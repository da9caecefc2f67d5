use Rattle.std.proofs.Common.{refl}
use Rattle.std_alloc.proofs.RetainMut.{Called-Mut}
use Rattle.arena_vec.proofs.dedup.have_same_key.Goals as goal

pub key-requires-2 : goal.key-requires-2
key-requires-2 g c = c.requires.1 _ _ _ (Called-Mut g.F.FnMut c.key.ensures) _ refl

pub returns : goal.returns
returns g c = record {
  between = c.key.new.self;
  key = c.key.result;
  other = c.key-2.result;
  first = Called-Mut g.F.FnMut c.key.ensures;
  second = Called-Mut g.F.FnMut c.key-2.ensures;
  compared = c.eq.ensures;
}
