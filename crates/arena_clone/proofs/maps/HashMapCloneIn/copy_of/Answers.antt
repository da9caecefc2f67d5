use Rattle.std.proofs.lemmas.Bool.Decides.{nat_tests}
use Rattle.std.proofs.Common.{arith}
use Rattle.std.proofs.lemmas.Result.{err_from_is_err_and}
use Rattle.arena_hash.specs.Contents.{kind}
use Rattle.arena_clone.specs.laws.MapLaws.{map_lawful}
use Rattle.arena_clone.proofs.OriginLemmas.{placed_held, placed_beside, placed_copied}
use Rattle.arena_clone.proofs.MapLemmas.{table_empty, map_refused, map_pair_refused, map_made}
use Rattle.arena_clone.proofs.maps.HashMapCloneIn.copy_of.Goals as goal

pub returns-in_err-empty : goal.returns-in_err-empty
returns-in_err-empty g c = grind (arith, nat_tests, err_from_is_err_and, map_refused)

pub put_pairs-requires-clause-held : goal.put_pairs-requires-clause-held
put_pairs-requires-clause-held g c =
    let law = map_lawful (kind g.K.Item g.K.ArenaKey.key g.V.Item g.S.KeyHasher.hash_of) g.K.CloneIn.kind g.V.CloneIn.kind
    g.met.K.CloneKey.keeps g.met.K.CloneIn.lawful g.met.V.CloneIn.lawful g.S.Default.is_default in
    placed_held (g.met.O.Origin.is_origin c.args.from.now) c.in_ok-empty.ensures.placed.frame law c.args.self.now c.requires.held

pub put_pairs-requires-clause-empty : goal.put_pairs-requires-clause-empty
put_pairs-requires-clause-empty g c = table_empty c.in_ok-empty.ensures.placed

pub put_pairs-requires-clause-room : goal.put_pairs-requires-clause-room
put_pairs-requires-clause-room g c = c.in_ok-empty.ensures.placed.spare

pub put_pairs-requires-clause-beside : goal.put_pairs-requires-clause-beside
put_pairs-requires-clause-beside g c =
    let law = map_lawful (kind g.K.Item g.K.ArenaKey.key g.V.Item g.S.KeyHasher.hash_of) g.K.CloneIn.kind g.V.CloneIn.kind
    g.met.K.CloneKey.keeps g.met.K.CloneIn.lawful g.met.V.CloneIn.lawful g.S.Default.is_default in
    placed_beside (g.met.O.Origin.is_origin c.args.from.now) c.in_ok-empty.ensures.placed.frame law c.args.self.now c.requires.held

pub returns-in_err-copy : goal.returns-in_err-copy
returns-in_err-copy g c =
    let p = err_from_is_err_and c.from_residual-in_err-copy.result c.from_residual-in_err-copy.ensures.1 in
    let law = map_lawful (kind g.K.Item g.K.ArenaKey.key g.V.Item g.S.KeyHasher.hash_of) _ _ g.met.K.CloneKey.keeps g.met.K.CloneIn.lawful
    g.met.V.CloneIn.lawful g.S.Default.is_default in
    rw (p.1, p.2) (placed_copied (g.met.O.Origin.is_origin c.args.from.now) c.in_ok-empty.ensures.placed.frame law c.args.self.now
    c.requires.held
    (map_pair_refused _ g.S.Default.is_default _ _ _ _ c.args.self.now (omega (arith, c.requires.held.0.within))
    c.in_ok-empty.ensures.placed c.in_err-copy.ensures))

pub returns : goal.returns
returns g c =
    let law = map_lawful (kind g.K.Item g.K.ArenaKey.key g.V.Item g.S.KeyHasher.hash_of) _ _ g.met.K.CloneKey.keeps g.met.K.CloneIn.lawful
    g.met.V.CloneIn.lawful g.S.Default.is_default in
    let held = placed_held (g.met.O.Origin.is_origin c.args.from.now) c.in_ok-empty.ensures.placed.frame law c.args.self.now
    c.requires.held in
    placed_copied (g.met.O.Origin.is_origin c.args.from.now) c.in_ok-empty.ensures.placed.frame law c.args.self.now c.requires.held
    (map_made _ g.S.Default.is_default _ _ _ _ _ (omega (arith, c.requires.held.0.within)) c.in_ok-empty.ensures.placed held.0
    c.in_ok-empty.ensures.hasher c.in_ok-copy.ensures)
