use Rattle.std.proofs.lemmas.Result.{err_from_is_err_and}
use Rattle.arena_vec.proofs.SpliceLemmas.{is_new, gather_refused, gathered_put}
use Rattle.arena_vec.proofs.splice.put_rest.Goals as goal

pub returns-in_err-extend : goal.returns-in_err-extend
returns-in_err-extend g c =
    let p = err_from_is_err_and c.from_residual.result c.from_residual.ensures.1 in
    let new = c.new_in-rest.ensures in
    let taken = rw (is_new g.T.Item c.new_in-rest.result new.block new.len new.cap) at c.in_err-extend.ensures in
    rw (p.1, p.2) (gather_refused _ _ _ _ _ _ c.args.vec.now c.extend.new.self _ c.requires.held taken.frame taken.err)

pub returns : goal.returns
returns g c =
    let new = c.new_in-rest.ensures in
    let taken = rw (is_new g.T.Item c.new_in-rest.result new.block new.len new.cap) at c.in_ok-extend.ensures in
    gathered_put g.T.Item _ _ _ _ _ c.args.vec.now c.extend.new.self _ c.requires.held taken.frame taken.ok c.insert_all.ensures
