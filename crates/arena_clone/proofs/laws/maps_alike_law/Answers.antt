use Rattle.arena_hash.specs.Contents.{kind}
use Rattle.arena_clone.proofs.AlikeLemmas.{maps_alike, alike_keys}
use Rattle.arena_clone.proofs.laws.maps_alike_law.Goals as goal

pub returns : goal.returns
returns g c = let types = kind g.K.Item g.K.ArenaKey.key g.V.Item g.S.KeyHasher.hash_of in record {
  alike = maps_alike types g.S.Default.is_default g.K.CloneIn.kind g.V.CloneIn.kind;
  lengths = λ ids a d v w held other alike. c.lengths_law.ensures a d v w held other
      (alike_keys types g.S.Default.is_default g.K.CloneIn.kind g.V.CloneIn.kind ids a d v w alike);
}
